-- A copy whose jump and whose fall lead where they should leads as the instruction does.
use Rattle.std.proofs.Common.{◌≡◌, ℕ, zero, suc, ◌+◌, ◌<◌, ◌≤◌, ℤ, List, [], ◌∷◌, length, Option, Some, None, refl, sym, ap, ◌∙◌, subst, arith, inl, inr}
use Rattle.std.specs.Prelude.{is_none}
use Rattle.std.proofs.lemmas.Option.{none-some, same_Some, cond_some}
use Rattle.std.proofs.lemmas.Bool.{cases_lt}
use Rattle.ebpf_insn.specs.declared.insn.Insn.{Insn}
use Rattle.ebpf_insn.specs.Program.{insn_at, slots_in}
use Rattle.ebpf_flow.specs.Edges.{falls, displacement_of, target_of, jump_of, fall_of, edges_at}
use Rattle.ebpf_layout.proofs.PathLemmas.{fall_edge, jump_edge, fall_of_edge, jump_of_edge}
use Rattle.ebpf_layout.specs.Layout.{copied_in}
use Rattle.ebpf_unroll.specs.Unrolling.{IsWayTo, LeadsAs, JumpsAs, FallsAs, AreCopies, IsUnrolled}

module _ (p q : List (Option Insn)) (of : ℕ → Option ℕ) (at slot : ℕ) (i copy : Insn) (here : insn_at p slot ≡ Some i) (there : insn_at q at ≡ Some copy)
    (jumps : JumpsAs q of copy at i slot) (falls_on : FallsAs q of copy at i slot) where
  jump_from : (to : ℕ) → (edges_at p slot).jump ≡ Some to → (next : ℕ) × ((edges_at q at).jump ≡ Some next) × IsWayTo q of next to
  jump_from to e = by (displacement_of i) refl where
    is : jump_of i slot ≡ Some to
    is = jump_of_edge p slot i to here e

    by : (d : Option ℤ) → displacement_of i ≡ d → (next : ℕ) × ((edges_at q at).jump ≡ Some next) × IsWayTo q of next to
    by None none = absurd (none-some to (sym (ap (λ (d : Option ℤ). target_of d slot) none) ∙ is))
    by (Some z) some =
        let way = jumps z some in
        let same : way.1 ≡ to = same_Some way.1 to (sym way.3 ∙ is) in
        (way.0, jump_edge q at copy way.0 there way.2, subst (λ (t : ℕ). IsWayTo q of way.0 t) same way.4)

  fall_from : (to : ℕ) → (edges_at p slot).fall ≡ Some to → (next : ℕ) × ((edges_at q at).fall ≡ Some next) × IsWayTo q of next to
  fall_from to e =
      let is : fall_of i slot ≡ Some to = fall_of_edge p slot i to here e in
      let way = falls_on (cond_some (falls i) (slot + slots_in i) to is).0 in
      let same : way.1 ≡ to = same_Some way.1 to (sym way.3 ∙ is) in
      (way.0, fall_edge q at copy way.0 there way.2, subst (λ (t : ℕ). IsWayTo q of way.0 t) same way.4)

  pub leads_from : LeadsAs p q of at slot
  leads_from = record {
    there = ap is_none here;
    led = λ j z e d.
        let same : j ≡ i = same_Some j i (sym e ∙ here) in
        let way = jumps z (ap displacement_of (sym same) ∙ d) in (way.1, ap (λ (k : Insn). jump_of k slot) same ∙ way.3);
    jumps = jump_from;
    falls = fall_from;
  }

-- the first slots lead as they should
abbrev pub AreFine : List (Option Insn) → List (Option Insn) → List (Option ℕ) → ℕ → Type 0
AreFine p q slots n = (at : ℕ) → at < n → (slot : ℕ) → copied_in slots at ≡ Some slot → LeadsAs p q (copied_in slots) at slot

past : (slots : List (Option ℕ)) (at slot : ℕ) → length slots ≤ at → copied_in slots at ≡ Some slot → ⊥
past [] at slot le e = none-some slot e
past (x ∷ slots) zero slot le e = absurd (omega (arith, le))
past (x ∷ slots) (suc at) slot le e = past slots at slot (omega (arith, le)) e

pub all_fine : (p q : List (Option Insn)) (slots : List (Option ℕ)) → copied_in slots 0 ≡ Some 0 → AreCopies p q (copied_in slots)
    → AreFine p q slots (length slots) → IsUnrolled p q (copied_in slots)
all_fine p q slots first same fine = record {
  first = first;
  same = same;
  leads = λ at slot e. elim (cases_lt at (length slots)) [
    | inl lt ↦ fine at lt slot e
    | inr le ↦ absurd (past slots at slot le e)
  ];
}
