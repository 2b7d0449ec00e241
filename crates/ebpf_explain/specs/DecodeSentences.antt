-- Why bytes are no program, as the sentence of a line.
use Rattle.std.specs.Prelude.{ℕ, List, length, ◌++◌, codes, decimal, if◌then◌else◌, ◌==◌}
use Rattle.ebpf_insn.specs.declared.fault.DecodeCode.{DecodeCode}
use Rattle.ebpf_insn.specs.declared.fault.DecodeCode.TheVariants.{WrongLength, UnknownOpcode, UnknownRegister, UnusedFieldSet, MissingSecondSlot}
use Rattle.ebpf_insn.specs.declared.fault.DecodeCode.TheVariants.{BadSecondSlot, UndefinedField, UnsupportedForm, ProgramTooLong}
use Rattle.ebpf_explain.specs.Hex.{byte_digits, eight_digits}

abbrev pub slot_text : ℕ → List ℕ
slot_text slot = codes "slot " ++ decimal slot

-- how many bytes there are, and how many a program has
abbrev pub count_words : ℕ → List ℕ
count_words count =
    if count == 1 then codes "there is " ++ (decimal count ++ codes " byte: a program is one or more whole slots of 8 bytes")
    else codes "there are " ++ (decimal count ++ codes " bytes: a program is one or more whole slots of 8 bytes")

-- what is wrong with the bytes, or with those of a slot
abbrev pub decode_words : List ℕ → ℕ → DecodeCode → List ℕ
decode_words bytes slot WrongLength = count_words (length bytes)
decode_words bytes slot UnknownOpcode = slot_text slot ++ (codes " has the opcode 0x" ++ (byte_digits bytes slot 0 ++ codes ", which no instruction has"))
decode_words bytes slot UnknownRegister = slot_text slot ++ (codes " names a register above 10: 0x" ++ byte_digits bytes slot 1)
decode_words bytes slot UnusedFieldSet = slot_text slot ++ (codes " sets a field that its instruction does not use: " ++ eight_digits bytes slot 0)
decode_words bytes slot MissingSecondSlot = slot_text slot ++ codes " is a wide load without its second slot"
decode_words bytes slot BadSecondSlot = slot_text slot ++ (codes " is a wide load whose second slot has more than the upper half of a number: " ++ eight_digits bytes slot 8)
decode_words bytes slot UndefinedField = slot_text slot ++ (codes " has an offset or an immediate that its operation does not allow: " ++ eight_digits bytes slot 0)
decode_words bytes slot UnsupportedForm =
    slot_text slot ++
    (codes " is a form that is not supported: " ++
    (eight_digits bytes slot 0 ++ codes " (an atomic operation, a function call, or a load of a map's address)"))
decode_words bytes slot ProgramTooLong = codes "the program has more than 4096 slots"

abbrev pub decode_sentence : List ℕ → ℕ → DecodeCode → List ℕ
decode_sentence bytes slot code = codes "  " ++ (decode_words bytes slot code ++ codes "\n")
