use Rattle.std.proofs.Common.{◌≡◌, ◌∙◌}
use Rattle.ebpf_flow.specs.declared.edges.Edges.{Edges}
use Rattle.ebpf_verify.specs.Comers.{along, comer_in}
use Rattle.ebpf_verify.specs.Rules.{after_fall, after_jump}
use Rattle.ebpf_verify.proofs.Coming.{added_both, came_by_fall, came_by_jump, came_to_first, came_to_second}
use Rattle.ebpf_verify.proofs.comers.add_after.Goals as goal

pub returns : goal.returns
returns c =
    let insn = c.args.sender.now.insn.now in
    let from = c.args.sender.now.from in
    let state = c.args.sender.now.state.now in
    let passed = after_fall from insn state in
    let taken = after_jump insn state in
    let edges : Edges = record { fall = c.way.result; jump = c.way-2.result } in
    let here = c.in_ok-sent.sent.items in
    let there = c.pass_on-passed.new.entries.items in
    let copied = c.in_ok-state.ensures in
    let nothing = c.in_ok-sent.ensures in
    let sent = c.in-Ok.ensures in
    let fell = came_to_first insn edges from state c.in_ok-state.state here there c.replace-fall.result copied nothing sent.len sent.sent
    (c.replace-fall.ensures.value ∙ rw (c.replace-fall.ensures.value) c.index_mut.ensures.value) in
    let jumped = came_to_second insn edges from state c.in_ok-state.state here there c.replace-jump.result c.replace-fall.new.dest copied nothing sent.len sent.sent
    (c.replace-jump.ensures.value ∙ rw (c.replace-jump.ensures.value) c.index_mut-2.ensures.value) in
    let f : comer_in c.replace-fall.result from ≡ along passed c.args.falls from =
    came_by_fall _ _ c.args.falls c.args.jumps passed taken from _ c.way.ensures c.way-2.ensures fell in
    let j : comer_in c.replace-jump.result from ≡ along taken c.args.jumps from =
    came_by_jump _ _ c.args.falls c.args.jumps passed taken from _ c.way.ensures c.way-2.ensures jumped in
    added_both c.add_known-2.result c.args.comers.now.items c.add_known.new.comers.items c.add_known-2.new.comers.items _ _ _ _
    c.in_ok-add_known.ensures c.add_known-2.ensures j f
