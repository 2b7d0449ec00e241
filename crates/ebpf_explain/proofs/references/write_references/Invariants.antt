use Rattle.std.proofs.Common.{◌≡◌, ◌++◌, take, string_bytes}
use Rattle.std.specs.List.{flat_map}
use Rattle.ebpf_explain.specs.Held.{held_word}
use Rattle.ebpf_explain.proofs.references.write_references.Given as goal

abbrev pub invariant-loop-reference : goal.invariant-loop-reference
invariant-loop-reference l = string_bytes l.text ≡ string_bytes l.fn.text ++ flat_map (held_word l.kinds) (take l.reference-index l.references)
