use Rattle.std.proofs.Common.{arith}
use Rattle.ebpf_object_file.proofs.Texts.{whole_here, whole_all}
use Rattle.ebpf_object_file.proofs.text.whole_text.Goals as goal

pub returns-then-bytes-end-eq0 : goal.returns-then-bytes-end-eq0
returns-then-bytes-end-eq0 c =
    whole_here c.args.bytes.now c.loop-end.end c.loop-end-test.true c.loop-end.invariant c.if-bytes-end-eq0.true

pub returns : goal.returns
returns c = whole_all c.args.bytes.now c.loop-end.end (omega arith) c.loop-end.invariant
