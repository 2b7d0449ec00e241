-- A run and a listing in a format: as text, or as objects of JSON.
use Rattle.std.specs.Prelude.{ℕ, ◌++◌, List, [], length, codes, decimal, Option, Some, None}
use Rattle.ebpf_insn.specs.declared.insn.Insn.{Insn}
use Rattle.ebpf_insn.specs.Program.{insn_at}
use Rattle.ebpf_text.specs.Listing.{line_at, listing_of}
use Rattle.ebpf_explain.specs.StackWords.{texts_below}
use Rattle.ebpf_command.specs.declared.format.Format.{Format}
use Rattle.ebpf_command.specs.declared.format.Format.TheVariants.{Text, Json}
use Rattle.ebpf_command.specs.Json.{number_list}
use Rattle.ebpf_input.specs.Formats.{accepted_object, instruction_object}
use Rattle.ebpf_one.specs.Lines.{run_lines}

-- how the run ended, before its output
abbrev pub exit_head : ℕ → ℕ → ℕ → List ℕ
exit_head exit executed peak =
    codes "{\"exit\":" ++ (decimal exit ++ (codes ",\"executed\":" ++ (decimal executed ++ (codes ",\"peak\":" ++ (decimal peak ++ codes ",\"output\":[")))))

abbrev pub run_objects : ℕ → List ℕ → ℕ → ℕ → ℕ → List ℕ
run_objects len output exit executed peak = accepted_object len ++ (exit_head exit executed peak ++ (number_list output ++ codes "]}\n"))

-- a program of n instructions that ran to its end
abbrev pub run_in : Format → ℕ → List ℕ → ℕ → ℕ → ℕ → List ℕ
run_in Text len output exit executed peak = run_lines len output exit executed peak
run_in Json len output exit executed peak = run_objects len output exit executed peak

-- ---- instructions

-- a second half of an instruction has none
abbrev pub object_at : ℕ → Option Insn → List ℕ
object_at slot None = []
object_at slot (Some i) = instruction_object slot i

abbrev pub insn_in : Format → ℕ → Option Insn → List ℕ
insn_in Text slot o = line_at slot o
insn_in Json slot o = object_at slot o

abbrev pub listing_in : Format → List (Option Insn) → List ℕ
listing_in Text p = listing_of p
listing_in Json p = texts_below (length p) (λ slot. object_at slot (insn_at p slot))
