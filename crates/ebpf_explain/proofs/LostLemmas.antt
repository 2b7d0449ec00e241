-- The words of the stack that are lost, one after another.
use Rattle.std.proofs.Common.{◌≡◌, ℕ, ◌+◌, List, ◌++◌, sym, ap, ◌∙◌, append_assoc, append-nil, add-one}
use Rattle.ebpf_state.specs.StateView.{StateView}
use Rattle.ebpf_verify.specs.declared.comers.Comer.{Comer}
use Rattle.ebpf_explain.specs.declared.lost.Place.{Place}
use Rattle.ebpf_explain.specs.declared.lost.Place.TheVariants.{Slot}
use Rattle.ebpf_explain.specs.Lost.{lost_among, slots_lost}

pub none_lost : (cs : List Comer) (s : StateView) (before : List Place) → before ≡ before ++ slots_lost cs s 0
unfolding slots_lost
none_lost cs s before = sym (append-nil before)

pub one_lost : (cs : List Comer) (s : StateView) (before places new : List Place) (n : ℕ) → places ≡ before ++ slots_lost cs s n
    → new ≡ places ++ lost_among cs s (Slot n) → new ≡ before ++ slots_lost cs s (n + 1)
unfolding slots_lost
one_lost cs s before places new n h k =
    rw add-one (k ∙ (ap (λ (xs : List Place). xs ++ lost_among cs s (Slot n)) h ∙ append_assoc before (slots_lost cs s n) (lost_among cs s (Slot n))))
