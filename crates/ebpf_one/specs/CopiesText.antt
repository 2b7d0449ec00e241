-- A program as hex, with the slots that it copies, and with its data.
use Rattle.std.specs.Prelude.{◌≡◌, ℕ, ◌++◌, List, [], ◌∷◌, map, codes, decimal, Option, Some, None}
use Rattle.std.specs.List.{flat_map}
use Rattle.hex.specs.Hex.{encode_lower}
use Rattle.ebpf_insn.specs.declared.insn.Insn.{Insn}
use Rattle.ebpf_insn.specs.Encoding.{IsProgram}
use Rattle.ebpf_command.specs.declared.format.Format.{Format}
use Rattle.ebpf_command.specs.declared.format.Format.TheVariants.{Text, Json}
use Rattle.ebpf_command.specs.Response.{Response, clean_response}
use Rattle.ebpf_input.specs.DataRequest.{own_slot}
use Rattle.ebpf_one.specs.LayOutText.{hex_in}

abbrev pub slot_or_null : Option ℕ → List ℕ
slot_or_null None = codes "null"
slot_or_null (Some slot) = decimal slot

abbrev pub later_slot : Option ℕ → List ℕ
later_slot slot = codes "," ++ slot_or_null slot

abbrev pub slot_list : List (Option ℕ) → List ℕ
slot_list [] = []
slot_list (slot ∷ later) = slot_or_null slot ++ flat_map later_slot later

-- bytes as hex, on one line; in JSON with the slot that each of their slots copies
abbrev pub copies_in : Format → List ℕ → List (Option ℕ) → List ℕ
copies_in Text bytes of = hex_in Text bytes
copies_in Json bytes of = codes "{\"hex\":\"" ++ (encode_lower bytes ++ (codes "\",\"of\":[" ++ (slot_list of ++ codes "]}\n")))

abbrev pub SaysCopies : Format → List (Option Insn) → List (Option ℕ) → Response → Type 0
SaysCopies format q of response = (bytes : List ℕ) × IsProgram bytes q × (response ≡ clean_response (copies_in format bytes of))

-- ---- a linked program, whose data comes after the context

-- the member of the data, after the slots
abbrev pub data_member : List ℕ → List ℕ
data_member after = codes "],\"data\":\"" ++ (encode_lower after ++ codes "\"}\n")

-- in JSON with the slot of the function that each of its slots copies
abbrev pub linked_in : Format → (bytes : List ℕ) → List (Option ℕ) → (after : List ℕ) → List ℕ
linked_in Text bytes of after = encode_lower bytes ++ (codes "\n" ++ (encode_lower after ++ codes "\n"))
linked_in Json bytes of after =
    codes "{\"hex\":\"" ++ (encode_lower bytes ++ (codes "\",\"of\":[" ++ (slot_list of ++ data_member after)))

abbrev pub SaysLinked : Format → List (Option Insn) → List (Option ℕ) → (after : List ℕ) → Response → Type 0
SaysLinked format q of after response = (bytes : List ℕ) × IsProgram bytes q × (response ≡ clean_response (linked_in format bytes (map own_slot of) after))
