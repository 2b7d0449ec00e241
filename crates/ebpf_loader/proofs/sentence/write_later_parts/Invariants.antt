use Rattle.std.proofs.Common.{◌≡◌, ◌++◌, take}
use Rattle.std.specs.Prelude.{string_bytes}
use Rattle.ebpf_loader.specs.Sentences.{later_parts}
use Rattle.ebpf_loader.proofs.sentence.write_later_parts.Given as goal

abbrev pub invariant-loop-part : goal.invariant-loop-part
invariant-loop-part l = string_bytes l.text ≡ string_bytes l.initial.text ++ later_parts l.file (take l.part-index l.parts)
