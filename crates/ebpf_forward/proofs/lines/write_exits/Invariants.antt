use Rattle.std.proofs.Common.{◌≡◌, ◌++◌, take}
use Rattle.std.specs.Prelude.{string_bytes}
use Rattle.ebpf_forward.specs.Lines.{exits_of}
use Rattle.ebpf_forward.proofs.lines.write_exits.Given as goal

abbrev pub invariant-loop-exit : goal.invariant-loop-exit
invariant-loop-exit l = string_bytes l.text ≡ string_bytes l.initial.text ++ exits_of (take l.exit-index l.exits)
