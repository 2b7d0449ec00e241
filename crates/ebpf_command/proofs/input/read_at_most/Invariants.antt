use Rattle.std.proofs.Common.{◌≡◌, ◌≤◌, ◌-◌, length}
use Rattle.std.specs.Io.KnownBytes.{Consumes}
use Rattle.ebpf_command.proofs.input.read_at_most.Given as goal

abbrev pub invariant-reading : goal.invariant-reading
invariant-reading g l =
    Consumes (g.R.Read.remaining l.initial.reader) (g.R.Read.remaining l.reader) l.bytes.items ×
    (length l.chunk ≡ 4096) ×
    (length l.bytes.items ≤ l.most)

abbrev pub decreases-reading : goal.decreases-reading
decreases-reading g l = l.most - length l.bytes.items
