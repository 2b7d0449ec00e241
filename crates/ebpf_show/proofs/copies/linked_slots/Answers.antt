use Rattle.std.proofs.Common.{◌≡◌, ◌+◌, ◌++◌, ◌∷◌, ◌∙◌, [], ℕ, List, Option, ap, map, rules, sym, arith}
use Rattle.std.specs.Prelude.{None, Some}
use Rattle.std.specs.List.{range_with_len}
use Rattle.std.proofs.lemmas.List.FromFn.{map-range_with_len_more}
use Rattle.ebpf_show.proofs.copies.linked_slots.Goals as goal

one_more : (before after : List (Option ℕ)) (slot : ℕ) → before ≡ None ∷ map Some (range_with_len 0 slot) → after ≡ before ++ (Some slot ∷ [])
    → after ≡ None ∷ map Some (range_with_len 0 (slot + 1))
one_more before after slot was pushed =
    pushed ∙ ap (λ (xs : List (Option ℕ)). xs ++ (Some slot ∷ [])) was
    ∙ sym (ap (λ (xs : List (Option ℕ)). None ∷ xs) (map-range_with_len_more Some 0 slot slot (omega (arith))))

pub loop-slot-preserved : goal.loop-slot-preserved
loop-slot-preserved c = one_more _ _ _ c.loop-slot.invariant (search rules)

pub returns : goal.returns
returns c =
    let least = c.loop-slot-test.false in
    let most = c.loop-slot.auto.slot-end in
    let all : c.loop-slot.slot ≡ 4096 = omega (arith, least, most) in
    c.loop-slot.invariant ∙ ap (λ (n : ℕ). None ∷ map Some (range_with_len 0 n)) all
