use Rattle.std.proofs.Common.{◌≡◌, ℕ, true, false, not, ap, sym, ◌∙◌}
use Rattle.ebpf_object_file.proofs.Below.{any_zero, any_true, any_kept}
use Rattle.ebpf_lines.specs.LineCounts.{held}
use Rattle.ebpf_lines.specs.Tracefile.{has_number}
use Rattle.ebpf_lines.proofs.tracefile.is_first.Goals as goal

pub loop-slot-init : goal.loop-slot-init
loop-slot-init c = any_zero (λ (k : ℕ). has_number (held c.args.holding.now k))

pub returns-then-has_number : goal.returns-then-has_number
returns-then-has_number c =
    let here : has_number (held c.args.holding.now c.loop-slot.slot) ≡ true = ap has_number (sym c.held_at.ensures) ∙ sym c.has_number.ensures ∙ c.if-has_number.true in
    ap not (sym (any_true (λ (k : ℕ). has_number (held c.args.holding.now k)) c.args.slots c.loop-slot.slot c.loop-slot-test.true here))

pub loop-slot-preserved : goal.loop-slot-preserved
loop-slot-preserved c =
    let here : has_number (held c.args.holding.now c.loop-slot.slot) ≡ false = ap has_number (sym c.held_at.ensures) ∙ sym c.has_number.ensures ∙ c.if-has_number.false in
    any_kept (λ (k : ℕ). has_number (held c.args.holding.now k)) c.loop-slot.slot here ∙ c.loop-slot.invariant
