use Rattle.std.proofs.Common.{◌≡◌, ◌+◌, length, rules, arith}
use Rattle.std.specs.Vec.{vec_len}
use Rattle.ebpf_machine.proofs.Instructions.CallsLeft.{behind, one_added, one_fits, taken_behind}
use Rattle.ebpf_machine.proofs.helpers.emit.Goals as goal

pub push_reserved-requires : goal.push_reserved-requires
push_reserved-requires g c =
    let (fixed, pc, called, room) = c.requires.called in
    let fits = one_fits fixed.verified.now.program pc _ _ called room.output in
    let long : length c.args.parts.now.output.items ≡ vec_len c.args.parts.now.output = search rules in
    omega (arith, fits, long)

pub returns-clause-room : goal.returns-clause-room
returns-clause-room g c = λ fixed pc called room.
    let added = one_added fixed.verified.now.program pc _ _ called room.output in
    let long : length c.push_reserved.new.self.items ≡ length c.args.parts.now.output.items + 1 = search rules in
    record {
      output = omega (arith, added, long, c.push_reserved.ensures.capacity);
      replies = behind fixed.verified.now.program pc _ _ room.replies;
      taken = taken_behind fixed.verified.now.program pc _ _ _ room.taken;
      held = room.held;
    }
