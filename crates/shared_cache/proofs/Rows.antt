-- The kinds of object.
use Rattle.std.proofs.Common.{◌≤◌, inl, inr, ap, arith}
use Rattle.slab_layer.specs.Kinds.{Row, IsRow}

-- a magazine of any kind holds few rounds
pub few_rounds : (r : Row) → IsRow r → r.rounds ≤ 8
few_rounds r row = elim row [
  | inl cell ↦ let e = ap (λ (q : Row). q.rounds) cell in omega arith
  | inr other ↦ elim other [
    | inl wide ↦ let e = ap (λ (q : Row). q.rounds) wide in omega arith
    | inr block ↦ let e = ap (λ (q : Row). q.rounds) block in omega arith
  ]
]
