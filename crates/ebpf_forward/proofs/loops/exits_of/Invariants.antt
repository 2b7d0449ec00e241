use Rattle.std.proofs.Common.{◌≡◌, take}
use Rattle.std.specs.Prelude.{map, string_bytes}
use Rattle.ebpf_forward.specs.ExitText.{exit_in}
use Rattle.ebpf_forward.proofs.loops.exits_of.Given as goal

abbrev pub invariant-loop-exit : goal.invariant-loop-exit
invariant-loop-exit l = map string_bytes l.texts.items ≡ map (exit_in l.program) (take l.exit-index l.exits)
