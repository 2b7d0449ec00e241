use Rattle.std.proofs.Common.{◌≡◌, ◌++◌, take, string_bytes}
use Rattle.std.specs.List.{flat_map}
use Rattle.ebpf_explain.specs.Registers.{known_register}
use Rattle.ebpf_explain.proofs.registers.write_registers.Given as goal

abbrev pub invariant-loop-register : goal.invariant-loop-register
invariant-loop-register l = string_bytes l.text ≡ string_bytes l.fn.text ++ flat_map (known_register l.state) (take l.register-index l.registers)
