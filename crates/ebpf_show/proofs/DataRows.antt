-- The rows of parts, a part at a time.
use Rattle.std.proofs.Common.{◌≡◌, ◌<◌, ◌+◌, ◌++◌, ℕ, List, [], ◌∷◌, length, take, ap, ◌∙◌, append-nil}
use Rattle.std.specs.List.{flat_map}
use Rattle.std.proofs.lemmas.Grind.{flat_map-append}
use Rattle.std.proofs.lemmas.List.{take_more}
use Rattle.ebpf_object_file.specs.declared.data_parts.Part.{Part}
use Rattle.ebpf_object_file.specs.declared.functions.Functions.{Functions}
use Rattle.ebpf_object_file.specs.DataParts.{no_part, part_at}
use Rattle.ebpf_command.specs.declared.format.Format.{Format}
use Rattle.ebpf_show.specs.DataRows.{part_row, part_rows}

pub rows_more : (format : Format) (f : Functions) (begin : ℕ) (parts : List Part) (k : ℕ) → k < length parts
    → part_rows format f begin (take (k + 1) parts) ≡ part_rows format f begin (take k parts) ++ part_row format f begin (part_at parts k)
rows_more format f begin parts k lt =
    ap (flat_map row) (take_more parts k no_part lt) ∙ flat_map-append row (take k parts) (part_at parts k ∷ [])
    ∙ ap (λ (x : List ℕ). flat_map row (take k parts) ++ x) (append-nil (row (part_at parts k))) where
      row : Part → List ℕ
      row p = part_row format f begin p
