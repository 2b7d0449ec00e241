-- Which program a text is of: the one that the text without labels and names is of.
use Rattle.std.specs.Prelude.{ℕ, List, Option}
use Rattle.ebpf_insn.specs.declared.insn.Insn.{Insn}
use Rattle.ebpf_assembly.specs.Lines.{IsAssembledPlain}
use Rattle.ebpf_assembly.specs.Names.{plain}

abbrev pub IsAssembled : List ℕ → List (Option Insn) → Type 0
IsAssembled text p = IsAssembledPlain (plain text) p
