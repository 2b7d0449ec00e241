use Rattle.std.proofs.Common.{◌≡◌, ◌==◌, false, arith}
use Rattle.std.proofs.lemmas.List.Elements.{All-more}
use Rattle.ebpf_stream.proofs.LineLemmas.{not_ten}
use Rattle.ebpf_stream.proofs.feed.line_length.Goals as goal

pub loop-i-preserved : goal.loop-i-preserved
loop-i-preserved c = All-more (λ c. (c == 10) ≡ false) c.args.bytes.now c.loop-i.i 0 (omega arith) c.loop-i.invariant (not_ten _ c.if-bytes-i-eq10.false)
