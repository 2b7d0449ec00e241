-- The read-only data of a function as one piece: the whole sections that are used, side by side.
use Rattle.std.specs.Prelude.{ℕ, Bool, ◌≡◌, ◌<◌, false, List, length, take, map, filter, sum_by, All, Option, Some, None, is_some, slice_index_or, ◌==◌, ◌&&◌, not}
use Rattle.std.specs.Prelude.{pos, ◌+ℤ◌, ℤ}
use Rattle.std.specs.List.{range_with_len, flat_map}
use Rattle.ebpf_object_file.specs.declared.data_use.DataUse.{DataUse}
use Rattle.ebpf_object_file.specs.declared.data_parts.Part.{Part}
use Rattle.ebpf_object_file.specs.declared.data_parts.Data.{Data}
use Rattle.ebpf_object_file.specs.Section.{sections_in, bytes_of}
use Rattle.ebpf_object_file.specs.File.{IsOpen}
use Rattle.ebpf_object_file.specs.Data.{any_below}

-- the parts are of sections of the file, which can be read
pub record HasParts (file : List ℕ) (d : Data) : Type 0 where
  pub is_open : IsOpen file
  pub inside : All (λ p. p.section < sections_in file) d.parts.items

-- a use is of the section of a number
abbrev pub is_of : ℕ → Option DataUse → Bool
is_of i None = false
is_of i (Some u) = u.section == i

-- the section of a use
abbrev pub section_used : Option DataUse → ℕ
section_used None = 0
section_used (Some u) = u.section

-- the section that a slot uses
abbrev pub section_at : List (Option DataUse) → ℕ → ℕ
section_at uses slot = section_used (slice_index_or uses slot None)

-- a slot is the first that uses its section
abbrev pub is_first_use : List (Option DataUse) → ℕ → Bool
is_first_use uses slot =
    is_some (slice_index_or uses slot None) && not (any_below (λ k. is_of (section_at uses slot) (slice_index_or uses k None)) slot)

-- the sections that the first n slots use, each once, in the order of first use
abbrev pub used_sections : List (Option DataUse) → ℕ → List ℕ
used_sections uses n = map (section_at uses) (filter (is_first_use uses) (range_with_len 0 n))

abbrev pub no_part : Part
no_part = record { section = 0; from = 0; size = 0 }

-- the part of a number
abbrev pub part_at : List Part → ℕ → Part
part_at parts k = slice_index_or parts k no_part

-- a part is of that section, and begins there
pub record IsPart (parts : List Part) (section from : ℕ) : Type 0 where
  pub number : ℕ
  pub there : number < length parts
  pub section_is : (part_at parts number).section ≡ section
  pub from_is : (part_at parts number).from ≡ from

-- what a slot's use is in the data: its offset from the first byte of its section's part
abbrev pub IsOffset : List Part → Option DataUse → Option ℤ → Type 0
IsOffset parts None offset = offset ≡ None
IsOffset parts (Some u) offset = (from : ℕ) × IsPart parts u.section from × (offset ≡ Some (pos from +ℤ u.offset))

-- whole sections, side by side: each part begins where the parts before it end
pub record AreWhole (file : List ℕ) (parts : List Part) : Type 0 where
  pub sizes : All (λ p. p.size ≡ length (bytes_of file p.section)) parts
  pub begins : (k : ℕ) → k < length parts → (part_at parts k).from ≡ sum_by (λ p. p.size) (take k parts)

-- the data of a function's uses
pub record IsLaid (file : List ℕ) (uses : List (Option DataUse)) (d : Data) : Type 0 where
  pub sections : map (λ (p : Part). p.section) d.parts.items ≡ used_sections uses (length uses)
  pub whole : AreWhole file d.parts.items
  pub size : d.size ≡ sum_by (λ p. p.size) d.parts.items
  pub slots : length d.offsets.items ≡ length uses
  pub offsets : (slot : ℕ) → slot < length uses → IsOffset d.parts.items (slice_index_or uses slot None) (slice_index_or d.offsets.items slot None)

-- its bytes
abbrev pub bytes_in : List ℕ → Data → List ℕ
bytes_in file d = flat_map (λ p. bytes_of file p.section) d.parts.items
