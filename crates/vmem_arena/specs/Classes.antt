-- The classes of free segments by size: which place a segment has among them, and that each has its place.
use Rattle.std.specs.Prelude.{◌≡◌, ℕ, ◌+◌, ◌/◌, ◌%◌, ◌^◌, ◌<◌, ◌≤◌, ◌&&◌, ◌⊎◌, ◌≢◌, nat_lt, nat_le, if◌then◌else◌, List, slice_index}
use Rattle.std.specs.Int.{bit_at}
use Rattle.vmem_arena.specs.declared.classes.TheConstants.{PLACES_OF_A_CLASS}
use Rattle.vmem_arena.specs.declared.segment.Tag.{Tag}
use Rattle.vmem_arena.specs.declared.word.TheConstants.{BITS}
use Rattle.vmem_arena.specs.Segments.{free_len}

-- the bit of a place, in words of `BITS` bits
abbrev pub bit_of : List ℕ → ℕ → ℕ
bit_of words i = bit_at (slice_index words (i / BITS)) (i % BITS)

-- a bit is set exactly where the word of its number is not 0
abbrev pub IsFilled : List ℕ → ℕ → Type 0
IsFilled words filled = (w : ℕ) → ((bit_at filled w ≡ 1) × (0 < slice_index words w)) ⊎ ((bit_at filled w ≡ 0) × (slice_index words w ≡ 0))

-- the place of a segment in the class of its length, by its first page
pub record IsPlace (first len place : ℕ) : Type 0 where
  pub least : 2 ^ (place / PLACES_OF_A_CLASS) ≤ len
  pub most : len < 2 ^ (place / PLACES_OF_A_CLASS + 1)
  pub page : place % PLACES_OF_A_CLASS ≡ first

-- 1 where a segment of `len` pages is of the class, else 0
abbrev pub in_class : ℕ → ℕ → ℕ
in_class class len = if nat_le (2 ^ class) len && nat_lt len (2 ^ (class + 1)) then 1 else 0

-- the places that are taken are those of the free segments
abbrev pub IsListed : List ℕ → List Tag → Type 0
IsListed words tags = (i : ℕ) → bit_of words i ≡ in_class (i / PLACES_OF_A_CLASS) (free_len tags (i % PLACES_OF_A_CLASS))

-- the same free segments, but for one that begins at this page
abbrev pub SameBut : ℕ → List Tag → List Tag → Type 0
SameBut page old new = (q : ℕ) → q ≢ page → free_len new q ≡ free_len old q

-- where the free segment at this page changes, from `was` pages to `now`, and no other does, places that list the segments list them
-- after it
abbrev pub Relists : (page was now : ℕ) (before after : List ℕ) → Type 0
Relists page was now before after =
    (old new : List Tag) → IsListed before old → free_len old page ≡ was → free_len new page ≡ now → SameBut page old new → IsListed after new
