-- The data of the first slots of a function, while it is laid out.
use Rattle.std.specs.Prelude.{ℕ, ◌≡◌, ◌≤◌, ◌<◌, List, [], ◌∷◌, ◌++◌, ◌≢◌, length, map, sum_by, All, Option, Some, None, is_some, slice_index_or, ℤ}
use Rattle.ebpf_object_file.specs.declared.data_use.DataUse.{DataUse}
use Rattle.ebpf_object_file.specs.declared.data_parts.Part.{Part}
use Rattle.ebpf_object_file.specs.declared.data_parts.Laying.{Laying}
use Rattle.ebpf_object_file.specs.declared.data_parts.TheConstants.{MOST_BYTES}
use Rattle.ebpf_object_file.specs.Section.{sections_in, bytes_of}
use Rattle.ebpf_object_file.specs.Data.{any_below}
use Rattle.ebpf_object_file.specs.DataParts.{AreWhole, IsPart, IsOffset, is_of, used_sections}

-- the parts are whole sections, and of each section it is known where its part begins
pub record IsLayingIn (file : List ℕ) (l : Laying) : Type 0 where
  pub rooms : length l.begins.items ≡ sections_in file
  pub most : l.size ≤ MOST_BYTES
  pub size : l.size ≡ sum_by (λ p. p.size) l.parts.items
  pub whole : AreWhole file l.parts.items
  pub inside : All (λ p. p.section < sections_in file) l.parts.items
  pub known : (i from : ℕ) → slice_index_or l.begins.items i None ≡ Some from → IsPart l.parts.items i from

-- the part that a section gets
abbrev pub next_part : List ℕ → ℕ → ℕ → Part
next_part file section from = record { section = section; from = from; size = length (bytes_of file section) }

-- the parts after a section is placed: the same, if it has a part
abbrev pub with_part : List ℕ → ℕ → Option ℕ → Laying → List Part
with_part file section None l = l.parts.items ++ (next_part file section l.size ∷ [])
with_part file section (Some from) l = l.parts.items

-- the section has a part from there on
pub record IsPlaced (file : List ℕ) (section : ℕ) (old new : Laying) (from : ℕ) : Type 0 where
  pub laying : IsLayingIn file new
  pub parts : new.parts.items ≡ with_part file section (slice_index_or old.begins.items section None) old
  pub here : slice_index_or new.begins.items section None ≡ Some from
  pub others : (i : ℕ) → i ≢ section → slice_index_or new.begins.items i None ≡ slice_index_or old.begins.items i None
  pub near : from ≤ MOST_BYTES
  pub part : IsPart new.parts.items section from

-- the data of the first n slots
pub record IsLaidBelow (file : List ℕ) (uses : List (Option DataUse)) (n : ℕ) (l : Laying) (offsets : List (Option ℤ)) : Type 0 where
  pub laying : IsLayingIn file l
  pub sections : map (λ (p : Part). p.section) l.parts.items ≡ used_sections uses n
  pub begun : (i : ℕ) → i < sections_in file → is_some (slice_index_or l.begins.items i None) ≡ any_below (λ k. is_of i (slice_index_or uses k None)) n
  pub slots : length offsets ≡ length uses
  pub laid : (slot : ℕ) → slot < n → IsOffset l.parts.items (slice_index_or uses slot None) (slice_index_or offsets slot None)
  pub rest : (slot : ℕ) → n ≤ slot → slice_index_or offsets slot None ≡ None
