use Rattle.std.proofs.Common.{◌≡◌, ℕ, true, false, ap, sym, ◌∙◌}
use Rattle.ebpf_object_file.proofs.Below.{any_zero, any_true, any_kept}
use Rattle.ebpf_lines.specs.LineCounts.{held, is_of}
use Rattle.ebpf_lines.proofs.line_counts.is_any_of.Goals as goal

pub loop-slot-init : goal.loop-slot-init
loop-slot-init c = any_zero (λ (k : ℕ). is_of c.args.file (held c.args.holding.now k))

pub returns-then-is_of : goal.returns-then-is_of
returns-then-is_of c =
    let here : is_of c.args.file (held c.args.holding.now c.loop-slot.slot) ≡ true = ap (is_of c.args.file) (sym c.held_at.ensures) ∙ sym c.is_of.ensures ∙ c.if-is_of.true in
    sym (any_true (λ (k : ℕ). is_of c.args.file (held c.args.holding.now k)) c.args.slots c.loop-slot.slot c.loop-slot-test.true here)

pub loop-slot-preserved : goal.loop-slot-preserved
loop-slot-preserved c =
    let here : is_of c.args.file (held c.args.holding.now c.loop-slot.slot) ≡ false = ap (is_of c.args.file) (sym c.held_at.ensures) ∙ sym c.is_of.ensures ∙ c.if-is_of.false in
    any_kept (λ (k : ℕ). is_of c.args.file (held c.args.holding.now k)) c.loop-slot.slot here ∙ c.loop-slot.invariant
