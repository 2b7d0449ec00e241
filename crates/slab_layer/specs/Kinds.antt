-- The kinds of object.
use Rattle.std.specs.Prelude.{◌≡◌, ◌⊎◌, ℕ}

-- number, bytes, fill byte, rounds of a magazine and objects of a page
pub record Row : Type 0 where
  pub number : ℕ
  pub size : ℕ
  pub fill : ℕ
  pub rounds : ℕ
  pub objects : ℕ

abbrev pub cell_row : Row
cell_row = record { number = 0; size = 16; fill = 0; rounds = 8; objects = 256 }

abbrev pub record_row : Row
record_row = record { number = 1; size = 64; fill = 255; rounds = 4; objects = 64 }

abbrev pub block_row : Row
block_row = record { number = 2; size = 512; fill = 90; rounds = 2; objects = 8 }

abbrev pub IsRow : Row → Type 0
IsRow r = (r ≡ cell_row) ⊎ ((r ≡ record_row) ⊎ (r ≡ block_row))
