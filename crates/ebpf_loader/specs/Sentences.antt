-- Why a function isn't linked with its data, in a sentence.
use Rattle.std.specs.Prelude.{ℕ, ◌<◌, ◌++◌, List, [], ◌∷◌, All, codes, decimal}
use Rattle.std.specs.List.{flat_map}
use Rattle.ebpf_object_file.specs.declared.data_parts.Data.{Data}
use Rattle.ebpf_object_file.specs.declared.data_parts.Part.{Part}
use Rattle.ebpf_object_file.specs.DataParts.{HasParts}
use Rattle.ebpf_object_file.specs.File.{IsOpen}
use Rattle.ebpf_object_file.specs.Section.{sections_in}
use Rattle.ebpf_object_file.specs.Sentences.{shown_name}
use Rattle.ebpf_object_file.specs.Source.{section_name}
use Rattle.ebpf_link.specs.declared.fault.LinkFault.{LinkFault}
use Rattle.ebpf_link.specs.declared.fault.LinkFault.TheVariants as link
use Rattle.ebpf_loader.specs.declared.fault.LoadFault.{LoadFault}
use Rattle.ebpf_loader.specs.declared.fault.LoadFault.TheVariants as fault

-- how many bytes each section has, with commas between them
unfoldable pub part_words : List ℕ → Part → List ℕ
part_words file p = shown_name (section_name file p.section) ++ (codes " has " ++ decimal p.size)

abbrev pub later_part : List ℕ → Part → List ℕ
later_part file p = codes ", " ++ part_words file p

abbrev pub later_parts : List ℕ → List Part → List ℕ
later_parts file ps = flat_map (λ p. later_part file p) ps

abbrev pub parts_words : List ℕ → List Part → List ℕ
parts_words file [] = []
parts_words file (p ∷ ps) = part_words file p ++ later_parts file ps

abbrev pub sizes_words : ℕ → ℕ → List ℕ
sizes_words context size =
    codes "the context has " ++ (decimal context ++ (codes " bytes and the data " ++ (decimal size ++ codes ", more than 4096 together: ")))

abbrev pub too_long : List ℕ → ℕ → Data → List ℕ
too_long file context laid = sizes_words context laid.size ++ parts_words file laid.parts.items

abbrev pub link_sentence : LinkFault → List ℕ
link_sentence (link.NotWide slot) = codes "slot " ++ (decimal slot ++ codes " loads no 64-bit immediate, which an address takes the place of")
link_sentence (link.Far slot) = codes "slot " ++ (decimal slot ++ codes " has an address more than 4096 bytes away from the context's first byte")
link_sentence link.Slots = codes "with the slot in front, which saves the context's pointer, the program would have more than 4096 slots"
link_sentence link.NoWord = codes "no word of the stack is certain to keep the context's pointer: use less than 512 bytes of the stack"
link_sentence _ = []

abbrev pub load_sentence : List ℕ → LoadFault → List ℕ
load_sentence file (fault.TooLong context laid) = too_long file context laid
load_sentence file (fault.Unlinked p e) = link_sentence e
load_sentence file _ = []

-- the sections of which it speaks are in the file
abbrev pub HasNames : List ℕ → LoadFault → Type 0
HasNames file (fault.TooLong context laid) = HasParts file laid
HasNames file _ = Unit {0}

-- they are all, of some parts
pub record AreInside (file : List ℕ) (parts : List Part) : Type 0 where
  pub is_open : IsOpen file
  pub inside : All (λ p. p.section < sections_in file) parts
