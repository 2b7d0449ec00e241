use Rattle.std.proofs.Common.{◌≤◌, ◌-◌, length, take, Ok}
use Rattle.ebpf_stream.specs.Feeding.{Takes, set_up}
use Rattle.ebpf_stream.proofs.feed.Feed.take.Given as goal

abbrev pub invariant-taking : goal.invariant-taking
invariant-taking g l =
    (l.from ≤ length l.bytes) ×
    Takes (set_up l.setup) (g.W.Write.contents l.initial.writer) (g.W.Write.contents l.writer) l.initial.self l.self (take l.from l.bytes) (Ok tt)

abbrev pub decreases-taking : goal.decreases-taking
decreases-taking g l = length l.bytes - l.from
