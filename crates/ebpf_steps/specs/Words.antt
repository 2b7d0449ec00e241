-- What an instruction changed, in words, after the instruction. In text it is a comment of an assembler.
use Rattle.std.specs.Prelude.{ℕ, ℤ, ◌++◌, List, [], codes, decimal}
use Rattle.ebpf_insn.specs.declared.register.Reg.TheVariants.{R0}
use Rattle.ebpf_text.specs.Operands.{offset_text, register_text}
use Rattle.ebpf_command.specs.declared.format.Format.{Format}
use Rattle.ebpf_command.specs.declared.format.Format.TheVariants.{Text, Json}
use Rattle.ebpf_machine.specs.declared.value.Base.{Base}
use Rattle.ebpf_machine.specs.declared.value.Base.TheVariants.{Stack, Context, Object}
use Rattle.ebpf_machine.specs.declared.value.Value.{Value}
use Rattle.ebpf_machine.specs.declared.value.Value.TheVariants.{Number, Pointer}
use Rattle.ebpf_steps.specs.declared.change.Change.{Change}
use Rattle.ebpf_steps.specs.declared.change.Change.TheVariants.{Nothing, Register, Memory, Output}

-- ---- values

-- the stack, the context, or the object that a call was granted
abbrev pub base_text : Base ℕ → List ℕ
base_text Stack = codes "stack"
base_text Context = codes "context"
base_text (Object call) = codes "object of " ++ decimal call

abbrev pub value_text : Value ℕ → List ℕ
value_text (Number n) = decimal n
value_text (Pointer base offset) = base_text base ++ offset_text offset

-- in JSON a pointer is a string
abbrev pub json_value : Value ℕ → List ℕ
json_value (Number n) = decimal n
json_value (Pointer base offset) = codes "\"" ++ (value_text (Pointer base offset) ++ codes "\"")

-- the value that a place got
abbrev pub set_in : Format → Value ℕ → List ℕ
set_in Text v = codes " = " ++ value_text v
set_in Json v = codes "\",\"value\":" ++ json_value v

-- ---- places in memory

-- those of the stack are counted from its end, to which r10 points
abbrev pub where_text : Base ℕ → List ℕ
where_text Stack = codes "r10"
where_text Context = base_text Context
where_text (Object call) = base_text (Object call)

abbrev pub place_text : Base ℕ → ℤ → List ℕ
place_text base offset = codes "[" ++ (where_text base ++ (offset_text offset ++ codes "]"))

-- ---- changes

-- what comes before the place
abbrev pub opening : Format → List ℕ
opening Text = codes "  ; "
opening Json = codes ",\"changed\":\""

-- the same, after a number that was added to the output
abbrev pub emitted_in : Format → ℕ → List ℕ
emitted_in Text n = codes "  ; emit " ++ (decimal n ++ codes ", ")
emitted_in Json n = codes ",\"emit\":" ++ (decimal n ++ codes ",\"changed\":\"")

abbrev pub change_in : Format → Change → List ℕ
change_in format Nothing = []
change_in format (Register r v) = opening format ++ (register_text r ++ set_in format v)
change_in format (Memory base offset v) = opening format ++ (place_text base offset ++ set_in format v)
change_in format (Output n v) = emitted_in format n ++ (register_text R0 ++ set_in format v)
