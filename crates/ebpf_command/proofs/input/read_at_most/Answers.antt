use Rattle.std.proofs.Common.{◌<◌, length, arith}
use Rattle.std.proofs.lemmas.Grind.{common_steps}
use Rattle.ebpf_command.proofs.Known.{Consumes-chunk, read_whole, read_front}
use Rattle.ebpf_command.proofs.input.read_at_most.Goals as goal

pub returns-then-n-eq0-clause-read : goal.returns-then-n-eq0-clause-read
returns-then-n-eq0-clause-read g c =
    let want = c.min-want.ensures in let kept = c.read.auto.buf in let len = c.len-in-reading.ensures in let room = c.reading-test.true in
    let before = c.len.ensures in let chunk = c.reading.invariant.1 in
    let some : 0 < length c.read.new.buf = grind (arith, common_steps) in
    read_whole _ _ _ _ _ _ _ c.if-n-eq0.true c.reading.invariant.0 c.in-Ok.ensures.bytes.0 (c.in-Ok.ensures.bytes.1 c.if-n-eq0.true some) c.reading.invariant.2

pub reading-preserved : goal.reading-preserved
reading-preserved g c =
    let grown =
    Consumes-chunk _ _ _ _ _ _ _ c.in-Ok.n c.in-Ok.ensures.bound.0 c.reading.invariant.0 c.in-Ok.ensures.bytes.0 c.in_ok-extend_from_slice.ensures.items in
    let want = c.min-want.ensures in let kept = c.read.auto.buf in let len = c.len-in-reading.ensures in let fits = c.in-Ok.ensures.bound.0 in
    let chunk = c.reading.invariant.1 in
    (grown.0, grind (arith, common_steps), grind (arith, common_steps))

pub returns-clause-read : goal.returns-clause-read
returns-clause-read g c =
    let full = c.reading-test.false in let len = c.len.ensures in
    read_front _ _ _ _ c.reading.invariant.0 (grind (arith, common_steps))
