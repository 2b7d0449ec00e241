use Rattle.std.proofs.Common.{◌≡◌, take}
use Rattle.std.specs.Prelude.{map}
use Rattle.ebpf_one.specs.Headed.{line_copied}
use Rattle.ebpf_one.proofs.headed.copied_lines.Given as goal

abbrev pub invariant-loop-slot : goal.invariant-loop-slot
invariant-loop-slot l = l.copied.items ≡ map (line_copied l.holding) (take l.slot-index l.of)
