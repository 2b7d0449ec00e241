use Rattle.std.proofs.Common.{◌≡◌, ◌==◌, false, take}
use Rattle.std.specs.List.{All}
use Rattle.ebpf_stream.proofs.feed.line_length.Given as goal

abbrev pub invariant-loop-i : goal.invariant-loop-i
invariant-loop-i l = All (λ c. (c == 10) ≡ false) (take l.i l.bytes)
