use Rattle.std.proofs.Common.{◌≤◌, ◌-◌, length, take}
use Rattle.std.specs.Io.KnownBytes.{Appends}
use Rattle.ebpf_command.proofs.output.write_bytes.Given as goal

abbrev pub invariant-writing : goal.invariant-writing
invariant-writing g l = Appends (g.W.Write.contents l.initial.writer) (g.W.Write.contents l.writer) (take l.at l.bytes) × (l.at ≤ length l.bytes)

abbrev pub decreases-writing : goal.decreases-writing
decreases-writing g l = length l.bytes - l.at
