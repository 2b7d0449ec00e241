use Rattle.std.proofs.Common.{List, ℕ, ap, map, Bor}
use Rattle.ebpf_assembly.proofs.Labels.{no_number, other_number}
use Rattle.ebpf_assembly.proofs.words.unlabelled.Goals as goal

pub returns-in_err-number : goal.returns-in_err-number
returns-in_err-number c =
    rw c.from_residual.ensures (no_number c.args.slot _ _ _ _ c.ranges.slot.fits
    (ap (λ (ws : List (Bor (List ℕ))). map (λ w. w.now) ws) c.in-Some.ensures.cases.0) c.in-Some-label.ensures c.in_err-number.ensures)

pub returns-else-number-slot : goal.returns-else-number-slot
returns-else-number-slot c =
    other_number c.args.slot c.in_ok-number.number _ _ _ _ c.ranges.slot.fits c.in_ok-number.ensures.0
    (ap (λ (ws : List (Bor (List ℕ))). map (λ w. w.now) ws) c.in-Some.ensures.cases.0) c.in-Some-label.ensures c.in_ok-number.ensures.1
    c.if-number-slot.false
