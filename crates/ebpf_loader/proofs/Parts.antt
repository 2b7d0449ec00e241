-- The words of parts, a part at a time, and the bytes of all.
use Rattle.std.proofs.Common.{◌≡◌, ◌<◌, ◌+◌, ◌++◌, ℕ, List, [], ◌∷◌, Option, length, take, suc, refl, ap, ◌∙◌, append-nil, arith}
use Rattle.std.specs.Prelude.{All, sum_by}
use Rattle.std.specs.List.{flat_map}
use Rattle.std.proofs.lemmas.Grind.{flat_map-append}
use Rattle.std.proofs.lemmas.List.Concat.{flat_map-cons}
use Rattle.std.proofs.lemmas.List.Sums.{sum_by-cons}
use Rattle.std.proofs.lemmas.List.{length-append, take_more}
use Rattle.ebpf_object_file.specs.declared.data_parts.Data.{Data}
use Rattle.ebpf_object_file.specs.declared.data_parts.Part.{Part}
use Rattle.ebpf_object_file.specs.declared.data_use.DataUse.{DataUse}
use Rattle.ebpf_object_file.specs.DataParts.{bytes_in, no_part, part_at, IsLaid}
use Rattle.ebpf_object_file.specs.Section.{bytes_of}
use Rattle.ebpf_loader.specs.Sentences.{later_part, later_parts}

-- those of one part more
pub parts_more : (file : List ℕ) (parts : List Part) (k : ℕ) → k < length parts
    → later_parts file (take (k + 1) parts) ≡ later_parts file (take k parts) ++ later_part file (part_at parts k)
parts_more file parts k lt =
    ap (flat_map words) (take_more parts k no_part lt) ∙ flat_map-append words (take k parts) (part_at parts k ∷ [])
    ∙ ap (λ (x : List ℕ). flat_map words (take k parts) ++ x) (append-nil (words (part_at parts k))) where
      words : Part → List ℕ
      words p = later_part file p

sizes_all : (file : List ℕ) (parts : List Part) → All (λ (p : Part). p.size ≡ length (bytes_of file p.section)) parts
    → sum_by (λ (p : Part). p.size) parts ≡ length (flat_map (λ (p : Part). bytes_of file p.section) parts)
sizes_all file [] all = refl
sizes_all file (p ∷ parts) all =
    let first : p.size ≡ length (bytes_of file p.section) = all 0 p (omega (arith)) in
    let later = sizes_all file parts (λ k d lt. all (suc k) d (omega (arith, lt))) in
    let both = length-append (bytes p) (flat_map bytes parts) in
    let sizes = sum_by-cons (λ (q : Part). q.size) p parts in
    let lengths = ap (λ (b : List ℕ). length b) (flat_map-cons bytes p parts) in
    omega (arith, first, later, both, sizes, lengths) where
      bytes : Part → List ℕ
      bytes q = bytes_of file q.section

-- there are as many as is said
pub bytes_are : (file : List ℕ) (uses : List (Option DataUse)) (laid : Data) → IsLaid file uses laid → laid.size ≡ length (bytes_in file laid)
bytes_are file uses laid is = is.size ∙ sizes_all file laid.parts.items is.whole.sizes
