-- The line of a step: the instruction at a slot, as a listing has it, and what it changed.
use Rattle.std.specs.Prelude.{ℕ, ◌++◌, List, [], Option, Some, None, codes, decimal}
use Rattle.ebpf_insn.specs.declared.insn.Insn.{Insn}
use Rattle.ebpf_text.specs.Listing.{insn_text}
use Rattle.ebpf_command.specs.declared.format.Format.{Format}
use Rattle.ebpf_command.specs.declared.format.Format.TheVariants.{Text, Json}
use Rattle.ebpf_machine.specs.Values.{Frame}
use Rattle.ebpf_steps.specs.Changes.{changed}
use Rattle.ebpf_steps.specs.Words.{change_in}

abbrev pub head_in : Format → ℕ → Insn → List ℕ
head_in Text slot i = decimal slot ++ (codes ": " ++ insn_text i)
head_in Json slot i = codes "{\"slot\":" ++ (decimal slot ++ (codes ",\"instruction\":\"" ++ (insn_text i ++ codes "\"")))

abbrev pub tail_in : Format → List ℕ
tail_in Text = codes "\n"
tail_in Json = codes "}\n"

-- by what the run owns after it
abbrev pub step_in : Format → ℕ → Insn → Frame ℕ → List ℕ
step_in format slot i after = head_in format slot i ++ (change_in format (changed i after) ++ tail_in format)

-- nothing begins at the second slot of a wide instruction
abbrev pub line_at : Format → ℕ → Option Insn → Frame ℕ → List ℕ
line_at format slot None after = []
line_at format slot (Some i) after = step_in format slot i after
