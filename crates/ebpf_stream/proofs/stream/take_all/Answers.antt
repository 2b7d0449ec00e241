use Rattle.std.proofs.Common.{Result, ap, subst}
use Rattle.ebpf_command.specs.declared.done.EngineFault.{EngineFault}
use Rattle.ebpf_stream.specs.Feeding.{Takes, set_up}
use Rattle.ebpf_stream.proofs.EndLemmas.{all_written, part_written}
use Rattle.ebpf_stream.proofs.stream.take_all.Goals as goal

pub returns-then-is_lost : goal.returns-then-is_lost
returns-then-is_lost g c =
    subst (λ (r : Result (Unit {0}) EngineFault). Takes (set_up c.args.setup.now) (g.W.Write.contents c.args.writer.now) (g.W.Write.contents c.take-taken.new.writer) c.args.feed.now c.take-taken.new.self c.args.bytes.now r)
    (c.is_lost.ensures.lost c.if-is_lost.true) c.take-taken.ensures

pub returns-in-Ok : goal.returns-in-Ok
returns-in-Ok g c =
    all_written (set_up c.args.setup.now) c.take-taken.result (g.W.Write.contents c.args.writer.now) (g.W.Write.contents c.take-taken.new.writer) (g.W.Write.contents c.flush.new.writer) c.args.feed.now c.take-taken.new.self c.flush.new.self c.args.bytes.now
    c.take-taken.ensures (c.is_lost.ensures.other c.if-is_lost.false) c.in-Ok.ensures.written c.in-Ok.ensures.empty (ap (λ v. v.items) c.flush.ensures.kept) c.flush.ensures.position

pub returns-in-Err : goal.returns-in-Err
returns-in-Err g c =
    part_written (set_up c.args.setup.now) c.take-taken.result (g.W.Write.contents c.args.writer.now) (g.W.Write.contents c.take-taken.new.writer) (g.W.Write.contents c.flush.new.writer) c.args.feed.now c.take-taken.new.self c.flush.new.self c.args.bytes.now
    c.take-taken.ensures (c.is_lost.ensures.other c.if-is_lost.false) c.in-Err.ensures.beginning
