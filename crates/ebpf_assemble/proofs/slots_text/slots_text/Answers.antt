use Rattle.std.proofs.Common.{◌∙◌, rules}
use Rattle.ebpf_assemble.proofs.Lines.{line_of_digits, line_more, none_more}
use Rattle.ebpf_assemble.proofs.slots_text.slots_text.Goals as goal

pub loop-slot-preserved : goal.loop-slot-preserved
loop-slot-preserved c =
    let steps = c.in-Some.ensures.steps in
    let size = c.loop-slot.invariant.2 in
    let written = line_of_digits _ _ _ _ c.in-Some.slot.now (c.deref.ensures ∙ c.in_ok-digits.ensures) c.in_ok-push_str.ensures.bytes
    c.in_ok-push_str-2.ensures.bytes in (
      search rules,
      tt,
      steps.0 ∙ size,
      line_more _ _ _ _ _ _ steps.1.0 (rw size at steps.1.1) steps.1.2 written c.loop-slot.invariant.3,
    )

pub returns : goal.returns
returns c = none_more _ _ _ c.in-None.ensures.steps.1.0 c.loop-slot.invariant.3
