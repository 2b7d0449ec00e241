-- The line of C that holds at a slot of a function, as a row before the slot.
use Rattle.std.specs.Prelude.{ℕ, zero, suc, List, [], Option, Some, None, cond, slice_index_or}
use Rattle.ebpf_object_file.specs.declared.lines.Line.{Line}
use Rattle.ebpf_object_file.specs.declared.lines.Lines.{Lines}
use Rattle.ebpf_object_file.specs.Shown.{is_one_line}
use Rattle.ebpf_command.specs.declared.format.Format.{Format}
use Rattle.ebpf_input.specs.Formats.{source_row_in}

-- what is written before a slot where one line holds, and another at the slot before it: nothing where they are one line
abbrev pub heading : Format → Lines → Option Line → Option Line → List ℕ
heading format l before None = []
heading format l None (Some n) = source_row_in format l n
heading format l (Some b) (Some n) = cond (is_one_line b n) [] (source_row_in format l n)

-- the line that holds at the slot before a slot
abbrev pub held_before : List (Option Line) → ℕ → Option Line
held_before holding zero = None
held_before holding (suc k) = slice_index_or holding k None
