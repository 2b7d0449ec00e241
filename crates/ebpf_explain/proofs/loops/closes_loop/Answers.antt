use Rattle.std.proofs.Common.{◌≡◌, ◌∙◌, Some, sym}
use Rattle.ebpf_flow.specs.Edges.{jump_of}
use Rattle.ebpf_explain.proofs.Looping.{led_by-past}
use Rattle.ebpf_explain.proofs.loops.closes_loop.Goals as goal

pub returns-in_default : goal.returns-in_default
returns-in_default c =
    let leads : jump_of c.args.insn c.args.slot ≡ Some c.in-Some.to = sym c.jump_of.ensures ∙ c.in-Some.is in
    rw leads (sym (led_by-past c.args.program.now c.in-Some.to c.args.slot c.if-to-slot.false))
