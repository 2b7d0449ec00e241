use Rattle.std.proofs.Common.{◌≡◌, ◌-◌, sym, ◌∙◌, inl, inr, arith}
use Rattle.std.proofs.lemmas.Bool.{cases_lt}
use Rattle.ebpf_layout.proofs.placing.highest.Goals as goal

pub loop-slot-preserved : goal.loop-slot-preserved
loop-slot-preserved c = record {
  inside = omega (arith, c.loop-slot.invariant.inside);
  none = λ k le lt. elim (cases_lt k c.loop-slot.slot) [
    | inl lower ↦ let here : k ≡ c.loop-slot.slot - 1 = omega arith in rw here (sym c.is_ready.ensures ∙ c.if-is_ready.false)
    | inr above ↦ c.loop-slot.invariant.none k above lt
  ];
}
