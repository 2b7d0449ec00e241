-- How the relocations of a function are read: what is known of its file before, and what each slot loads after the first n.
use Rattle.std.specs.Prelude.{ℕ, Bool, ◌≡◌, ◌<◌, ◌/◌, List, length, Option, Some, None, is_some, slice_index_or, slice_set, true, false}
use Rattle.ebpf_object_file.specs.declared.relocation.Relocation.{Relocation}
use Rattle.ebpf_object_file.specs.declared.functions.Functions.{Functions}
use Rattle.ebpf_object_file.specs.declared.function.Function.{Function}
use Rattle.ebpf_object_file.specs.declared.object_fault.ObjectFault.{ObjectFault}
use Rattle.ebpf_object_file.specs.declared.data_use.DataUse.{DataUse}
use Rattle.ebpf_object_file.specs.declared.data_use.Reading.{Reading}
use Rattle.ebpf_object_file.specs.First.{NoneBelow}
use Rattle.ebpf_object_file.specs.Relocation.{relocation_of, reaches}
use Rattle.ebpf_object_file.specs.Section.{section_of, sections_in}
use Rattle.ebpf_object_file.specs.File.{AreFunctions}
use Rattle.ebpf_object_file.specs.DataFunction.{is_refused, IsRefusalBy}
use Rattle.ebpf_object_file.specs.Data.{any_below, relocates, has_comment, slot_of, data_fault, use_of}

-- of each section, whether one of the first n has relocations for it
pub record AreMarkedBelow (file : List ℕ) (n : ℕ) (marks : List Bool) : Type 0 where
  pub all : length marks ≡ sections_in file
  pub each : (i : ℕ) → i < sections_in file → slice_index_or marks i false ≡ any_below (λ k. relocates i (section_of file k)) n

abbrev pub AreMarked : List ℕ → List Bool → Type 0
AreMarked file marks = AreMarkedBelow file (sections_in file) marks

pub record IsReading (r : Reading) : Type 0 where
  pub functions : AreFunctions r.functions.file.now r.functions
  pub marks : AreMarked r.functions.file.now r.marks.now
  pub comment : r.comment ≡ has_comment r.functions.file.now

-- the use of a relocation is put at its slot, which had none
pub record IsPut (f : Functions) (g : Function) (r : Relocation) (old new : List (Option DataUse)) : Type 0 where
  pub fine : data_fault f.file.now f.symbols.now g r ≡ None
  pub inside : slot_of g.place r < length old
  pub free : slice_index_or old (slot_of g.place r) None ≡ None
  pub set : new ≡ slice_set old (slot_of g.place r) (Some (use_of f.file.now f.symbols.now g r))

-- it isn't put: it is no use of data, or its slot has one
pub record IsPutFault (f : Functions) (g : Function) (r : Relocation) (old : List (Option DataUse)) (e : ObjectFault) : Type 0 where
  pub by : IsRefusalBy f g.place r (data_fault f.file.now f.symbols.now g r) e
  pub taken : data_fault f.file.now f.symbols.now g r ≡ None → is_some (slice_index_or old (slot_of g.place r) None) ≡ true

-- a slot's use is that of one of the first n relocations
pub record IsFrom (f : Function) (table : List ℕ) (n slot : ℕ) : Type 0 where
  pub entry : ℕ
  pub before : entry < n
  pub reaches : reaches f.place.from f.place.size (relocation_of table entry) ≡ true
  pub slot_is : slot_of f.place (relocation_of table entry) ≡ slot

-- what each slot loads after the first n relocations, none of which is refused
pub record ArePut (file symbols : List ℕ) (f : Function) (table : List ℕ) (n : ℕ) (uses : List (Option DataUse)) : Type 0 where
  pub slots : length uses ≡ length f.code.now / 8
  pub taken : NoneBelow (is_refused file symbols f table) n
  pub each : (k : ℕ) → k < n → reaches f.place.from f.place.size (relocation_of table k) ≡ true
      → slice_index_or uses (slot_of f.place (relocation_of table k)) None ≡ Some (use_of file symbols f (relocation_of table k))
  pub only : (slot : ℕ) (u : DataUse) → slice_index_or uses slot None ≡ Some u → IsFrom f table n slot
