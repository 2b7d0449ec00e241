-- The rows of the kinds are the kinds.
use Rattle.std.proofs.Common.{◌≡◌, List, [], ◌∷◌, refl, ap, ◌∙◌}
use Rattle.std.specs.Prelude.{map}
use Rattle.ebpf_state.specs.declared.kinds.KindRow.{KindRow}
use Rattle.ebpf_state.specs.Kinds.{AreKinds}
use Rattle.ebpf_machine.specs.World.{Kind, kinds_of}
use Rattle.ebpf_machine.specs.Kinds.{kinds_with, known_kinds}

kinds_by_rows : (rows : List KindRow) → kinds_of rows ≡ kinds_with (map (λ row. row.size) rows) (map (λ row. row.fill) rows)
kinds_by_rows [] = refl
kinds_by_rows (row ∷ rows) = ap (λ (kinds : List Kind). record { size = row.size; fill = row.fill } ∷ kinds) (kinds_by_rows rows)

pub kinds_known : (rows : List KindRow) → AreKinds rows → kinds_of rows ≡ known_kinds
kinds_known rows h = kinds_by_rows rows ∙ (rw (h.sizes, h.fills) refl)
