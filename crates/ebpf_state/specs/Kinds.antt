-- The kinds of object that programs allocate: by number, their names, their sizes in bytes, and the bytes that fill a
-- new one.
use Rattle.std.specs.Prelude.{◌≡◌, ℕ, List, [], ◌∷◌, map, codes}
use Rattle.ebpf_state.specs.declared.kinds.KindRow.{KindRow}

abbrev pub kind_names : List (List ℕ)
kind_names = codes "cell" ∷ codes "record" ∷ codes "block" ∷ []

abbrev pub kind_sizes : List ℕ
kind_sizes = 16 ∷ 64 ∷ 512 ∷ []

abbrev pub kind_fills : List ℕ
kind_fills = 0x00 ∷ 0xff ∷ 0x5a ∷ []

-- the rows are those kinds
pub record AreKinds (rows : List KindRow) : Type 0 where
  pub names : map (λ row. row.name.now) rows ≡ kind_names
  pub sizes : map (λ row. row.size) rows ≡ kind_sizes
  pub fills : map (λ row. row.fill) rows ≡ kind_fills
