-- The rows before what is known of a linked program: which bytes of its context are which data.
use Rattle.std.specs.Prelude.{ℕ, ◌≡◌, ◌+◌, ◌-◌, ◌++◌, ◌==◌, List, [], length, codes, cond, decimal}
use Rattle.std.specs.List.{flat_map}
use Rattle.ebpf_object_file.specs.declared.data_parts.Data.{Data}
use Rattle.ebpf_object_file.specs.declared.data_parts.Part.{Part}
use Rattle.ebpf_object_file.specs.declared.functions.Functions.{Functions}
use Rattle.ebpf_object_file.specs.DataNames.{data_name}
use Rattle.ebpf_object_file.specs.DataParts.{IsLaid}
use Rattle.ebpf_object_file.specs.Sentences.{shown_name}
use Rattle.ebpf_command.specs.declared.format.Format.{Format}
use Rattle.ebpf_command.specs.declared.format.Format.TheVariants.{Text, Json}
use Rattle.ebpf_command.specs.Json.{quoted}
use Rattle.ebpf_command.specs.Response.{Response}
use Rattle.ebpf_input.specs.declared.data_request.DataRequest.{DataRequest}

-- the bytes from one to another, which may be the same
abbrev pub end_words : ℕ → ℕ → List ℕ
end_words first last = cond (first == last) [] (codes "..+" ++ decimal last)

abbrev pub data_line : List ℕ → ℕ → ℕ → List ℕ
data_line name first last = codes "context+" ++ (decimal first ++ (end_words first last ++ (codes " " ++ (name ++ codes "\n"))))

abbrev pub data_object : List ℕ → ℕ → ℕ → List ℕ
data_object name first last =
    codes "{\"data\":" ++ (quoted name ++ (codes ",\"from\":" ++ (decimal first ++ (codes ",\"to\":" ++ (decimal last ++ codes "}\n")))))

abbrev pub data_in : Format → List ℕ → ℕ → ℕ → List ℕ
data_in Text name first last = data_line name first last
data_in Json name first last = data_object name first last

-- of a part, if it has bytes, by where the data begins in the context
unfoldable pub part_row : Format → Functions → ℕ → Part → List ℕ
part_row format f begin p =
    cond (p.size == 0) [] (data_in format (shown_name (data_name f p.section)) (begin + p.from) (begin + p.from + (p.size - 1)))

abbrev pub part_rows : Format → Functions → ℕ → List Part → List ℕ
part_rows format f begin parts = flat_map (part_row format f begin) parts

-- the data is the end of the context
abbrev pub data_begin : DataRequest → ℕ
data_begin r = r.request.decl.context - length r.«data».items

-- the rows of a function that was linked with the data that it reads
pub record AreDataRows (format : Format) (r : DataRequest) (rows : List ℕ) : Type 0 where
  pub laid : Data
  pub is_laid : IsLaid r.function.functions.file.now r.function.uses.items laid
  pub are : rows ≡ part_rows format r.function.functions (data_begin r) laid.parts.items

-- what is said of the program comes after them
abbrev pub after_rows : List ℕ → Response → Response
after_rows rows said = record { text = rows ++ said.text; done = said.done }
