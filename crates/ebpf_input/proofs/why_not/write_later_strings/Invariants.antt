use Rattle.std.proofs.Common.{◌≡◌, ◌++◌, take}
use Rattle.std.specs.Prelude.{string_bytes}
use Rattle.ebpf_input.specs.WhyNot.{later_strings}
use Rattle.ebpf_input.proofs.why_not.write_later_strings.Given as goal

abbrev pub invariant-loop-string : goal.invariant-loop-string
invariant-loop-string l = string_bytes l.text ≡ string_bytes l.initial.text ++ later_strings (take l.string-index l.strings)
