use Rattle.std.proofs.Common.{arith}
use Rattle.ebpf_layout.proofs.Written.{length-behind, length-half, moved_size}
use Rattle.ebpf_layout.proofs.writer.write_insn.Goals as goal

pub push-requires-clause-room : goal.push-requires-clause-room
push-requires-clause-room c =
    let w = c.args.writer.now in
    let o = c.args.order.now in
    let code = c.write_fall.new.writer.code.items in
    let longer = length-behind o.marks.items w.places.items w.code.items c.args.fall code c.in_ok-write_fall.ensures.written in
    let size = moved_size o.marks.items c.write_fall.new.writer.places.items code c.args.insn c.args.jump c.moved_to-moved.result c.moved_to-moved.ensures in
    omega (arith, longer.1, size, length-half c.args.insn, c.requires.room)
