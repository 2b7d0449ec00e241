use Rattle.std.proofs.Common.{◌≡◌, ◌+◌, length, rules, arith}
use Rattle.std.specs.Vec.{vec_len}
use Rattle.ebpf_machine.proofs.Instructions.CallsLeft.{behind, one_added, one_fits}
use Rattle.ebpf_machine.proofs.helpers.hold.Goals as goal

pub push_reserved-requires-2 : goal.push_reserved-requires-2
push_reserved-requires-2 g c =
    let fits = one_fits c.args.fixed.now.verified.now.program c.args.parts.now.pc _ _ c.requires.called c.requires.room.replies in
    let long : length c.args.parts.now.replies.items ≡ vec_len c.args.parts.now.replies = search rules in
    omega (arith, fits, long)

pub returns-clause-room : goal.returns-clause-room
returns-clause-room g c =
    let room = c.requires.room in
    let added = one_added c.args.fixed.now.verified.now.program c.args.parts.now.pc _ _ c.requires.called room.replies in
    let long : length c.push_reserved-2.new.self.items ≡ length c.args.parts.now.replies.items + 1 = search rules in
    record {
      output = behind c.args.fixed.now.verified.now.program c.args.parts.now.pc _ _ room.output;
      replies = omega (arith, added, long, c.push_reserved-2.ensures.capacity);
      taken = room.taken;
      held = search rules;
    }
