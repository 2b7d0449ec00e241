-- Which slot of another program a slot copies, as a row, and what is at that slot.
use Rattle.std.specs.Prelude.{ℕ, suc, ◌==◌, ◌++◌, Bool, false, List, [], ◌∷◌, codes, decimal, filter, length, map, take, Option, Some, None, slice_index_or}
use Rattle.std.specs.List.{range_with_len}
use Rattle.ebpf_insn.specs.declared.insn.Insn.{Insn}
use Rattle.ebpf_command.specs.declared.format.Format.{Format}
use Rattle.ebpf_command.specs.declared.format.Format.TheVariants.{Text, Json}
use Rattle.ebpf_show.specs.declared.copies.Copies.{Copies}
use Rattle.ebpf_show.specs.declared.copies.TheConstants.{MOST_SLOTS}

-- whether a slot is copied, and how often
abbrev pub is_of : ℕ → Option ℕ → Bool
is_of slot None = false
is_of slot (Some copied) = copied == slot

abbrev pub visit_of : List (Option ℕ) → ℕ → ℕ
visit_of of slot = length (filter (is_of slot) of)

abbrev pub visit_row : Format → ℕ → ℕ → List ℕ
visit_row Text slot visit = codes "  slot " ++ (decimal slot ++ (codes ", visit " ++ (decimal visit ++ codes "\n")))
visit_row Json slot visit = codes "{\"of\":" ++ (decimal slot ++ (codes ",\"visit\":" ++ (decimal visit ++ codes "}\n")))

abbrev pub added_row : Format → List ℕ
added_row Text = codes "  added\n"
added_row Json = codes "{\"of\":null}\n"

-- the visit of the slot that is copied, by how often it is copied as far as here
abbrev pub copied_row : Format → List (Option ℕ) → ℕ → Option ℕ → List ℕ
copied_row format of slot None = added_row format
copied_row format of slot (Some copied) = visit_row format copied (visit_of (take (suc slot) of) copied)

abbrev pub copy_row : Format → List (Option ℕ) → ℕ → List ℕ
copy_row format of slot = copied_row format of slot (slice_index_or of slot None)

-- where an instruction begins
abbrev pub copy_row_if : Format → Option Copies → ℕ → Option Insn → List ℕ
copy_row_if format None slot i = []
copy_row_if format (Some c) slot None = []
copy_row_if format (Some c) slot (Some i) = copy_row format c.of.now slot

-- what is at a slot that is copied, such as the line of C that holds there
abbrev pub item_at : {X : Type 0} → List (Option X) → Option ℕ → Option X
item_at items None = None
item_at items (Some slot) = slice_index_or items slot None

-- a program that was linked with its data has one slot in front, and then those of the function
abbrev pub linked_slots : List (Option ℕ)
linked_slots = None ∷ map Some (range_with_len 0 MOST_SLOTS)
