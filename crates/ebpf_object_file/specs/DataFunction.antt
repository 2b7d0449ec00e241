-- A function with the read-only data that its slots load, and why there is none.
use Rattle.std.specs.Prelude.{ℕ, Bool, ◌⊎◌, ◌≡◌, ◌<◌, ◌/◌, List, length, Option, Some, None, is_some, slice_index_or, ◌==◌, ◌&&◌, ◌||◌}
use Rattle.ebpf_object_file.specs.declared.relocation.Relocation.{Relocation}
use Rattle.ebpf_object_file.specs.declared.outside.Place.{Place}
use Rattle.ebpf_object_file.specs.declared.outside.Outside.{Outside}
use Rattle.ebpf_object_file.specs.declared.outside.Target.{Target}
use Rattle.ebpf_object_file.specs.declared.functions.Functions.{Functions}
use Rattle.ebpf_object_file.specs.declared.function.Function.{Function}
use Rattle.ebpf_object_file.specs.declared.meant.Meant.{Meant}
use Rattle.ebpf_object_file.specs.declared.data_use.DataUse.{DataUse}
use Rattle.ebpf_object_file.specs.declared.data_function.DataFunction.{DataFunction}
use Rattle.ebpf_object_file.specs.declared.data_function.DataFault.{DataFault}
use Rattle.ebpf_object_file.specs.declared.data_function.DataFault.TheVariants as loading
use Rattle.ebpf_object_file.specs.declared.fault.FileFault.{FileFault}
use Rattle.ebpf_object_file.specs.declared.fault.FileFault.TheVariants as fault
use Rattle.ebpf_object_file.specs.declared.object_fault.ObjectFault.{ObjectFault}
use Rattle.ebpf_object_file.specs.declared.object_fault.ObjectFault.TheVariants as object
use Rattle.ebpf_object_file.specs.First.{NoneBelow, IsFirst}
use Rattle.ebpf_object_file.specs.Section.{sections_in}
use Rattle.ebpf_object_file.specs.File.{IsOpen}
use Rattle.ebpf_object_file.specs.Relocation.{relocation_of, reaches}
use Rattle.ebpf_object_file.specs.Call.{is_call}
use Rattle.ebpf_object_file.specs.Outside.{IsReached, AreRelocations, IsReferred, IsRelocationFault, IsCalling}
use Rattle.ebpf_object_file.specs.Function.{IsAt, IsCodeFault}
use Rattle.ebpf_object_file.specs.Meant.{IsMeant, IsNoneMeant}
use Rattle.ebpf_object_file.specs.Data.{any_below, slot_of, data_fault, use_of}

-- the entry of a number reaches the function, and is for that slot
abbrev pub is_for : Place → (table : List ℕ) → (slot : ℕ) → ℕ → Bool
is_for p table slot k = reaches p.from p.size (relocation_of table k) && slot_of p (relocation_of table k) == slot

-- it reaches the function, and is no use of data, or is for the slot of an entry before it
abbrev pub is_refused : (file symbols : List ℕ) → Function → (table : List ℕ) → ℕ → Bool
is_refused file symbols f table k =
    reaches f.place.from f.place.size (relocation_of table k)
    && (is_some (data_fault file symbols f (relocation_of table k)) || any_below (is_for f.place table (slot_of f.place (relocation_of table k))) k)

-- what each slot loads: the use of the relocation that is for it
pub record AreUses (file symbols : List ℕ) (f : Function) (uses : List (Option DataUse)) : Type 0 where
  pub slots : length uses ≡ length f.code.now / 8
  pub fine : (r : Relocation) → IsReached file f.place r → data_fault file symbols f r ≡ None
  pub each : (r : Relocation) → IsReached file f.place r → slice_index_or uses (slot_of f.place r) None ≡ Some (use_of file symbols f r)
  pub only : (slot : ℕ) (u : DataUse) → slice_index_or uses slot None ≡ Some u → (r : Relocation) × IsReached file f.place r × (slot_of f.place r ≡ slot)

-- no relocation is refused, the uses are theirs, and no slot calls a function of the file
pub record AreLoads (file symbols : List ℕ) (f : Function) (uses : List (Option DataUse)) : Type 0 where
  pub table : List ℕ
  pub relocations : AreRelocations file f.place table
  pub taken : NoneBelow (is_refused file symbols f table) (length table / 16)
  pub are : AreUses file symbols f uses
  pub calls : NoneBelow (is_call f.code.now) (length f.code.now / 8)

-- the function of the name, or the only one where the name is empty, with what its slots load
pub record IsDataFunction (file name : List ℕ) (d : DataFunction) : Type 0 where
  pub meant : Meant
  pub is : IsMeant file name meant
  pub at : IsAt file meant.functions.symbols.now meant.number d.function
  pub functions : d.functions ≡ meant.functions
  pub loads : AreLoads file meant.functions.symbols.now d.function d.uses.items

-- the uses are of sections of the file, which can be read
pub record HasUses (file : List ℕ) (uses : List (Option DataUse)) : Type 0 where
  pub is_open : IsOpen file
  pub inside : (slot : ℕ) (u : DataUse) → slice_index_or uses slot None ≡ Some u → u.section < sections_in file

-- why a relocation is refused: it has this fault, or else its slot is taken
abbrev pub IsRefusalBy : Functions → Place → Relocation → Option Target → ObjectFault → Type 0
IsRefusalBy f p r None e = e ≡ object.File fault.SlotTwice
IsRefusalBy f p r (Some t) e = (o : Outside) × (e ≡ object.Outside o) × IsReferred f.file.now f.symbols.now f.strings.now p r (Some t) o

-- the refusal of the first relocation that is refused
pub record IsRefusal (f : Functions) (g : Function) (table : List ℕ) (e : ObjectFault) : Type 0 where
  pub entry : ℕ
  pub first : IsFirst (is_refused f.file.now f.symbols.now g table) (length table / 16) entry
  pub by : IsRefusalBy f g.place (relocation_of table entry) (data_fault f.file.now f.symbols.now g (relocation_of table entry)) e

-- the first call of a function of the file
abbrev pub IsCallFault : Functions → Function → ObjectFault → Type 0
IsCallFault f g e = (o : Outside) × (e ≡ object.Outside o) × IsCalling f.symbols.now f.strings.now f.header.sections g.place g.code.now o

-- the refusal of the first relocation that is refused, else that of the first call
abbrev pub IsFirstRefusal : Functions → Function → (table : List ℕ) → ObjectFault → Type 0
IsFirstRefusal f g table e =
    IsRefusal f g table e ⊎ (NoneBelow (is_refused f.file.now f.symbols.now g table) (length table / 16) × IsCallFault f g e)

-- why the relocations or the calls of a function are refused
abbrev pub IsLoadingFault : Functions → Function → ObjectFault → Type 0
IsLoadingFault f g e =
    ((x : FileFault) × (e ≡ object.File x) × IsRelocationFault f.file.now g.place x)
    ⊎ ((table : List ℕ) × AreRelocations f.file.now g.place table × IsFirstRefusal f g table e)

-- why the function that is meant is refused
abbrev pub IsMeantFault : Functions → ℕ → ObjectFault → Type 0
IsMeantFault f number e =
    ((x : FileFault) × (e ≡ object.File x) × IsCodeFault f.file.now f.symbols.now number x)
    ⊎ ((g : Function) × IsAt f.file.now f.symbols.now number g × IsLoadingFault f g e)

-- what is said of a fault, if it isn't want of memory, which can come at any time
abbrev pub IfObject : DataFault → (ObjectFault → Type 0) → Type 0
IfObject loading.NoMemory P = Unit {0}
IfObject (loading.Object e) P = P e

-- why there is none
abbrev pub IsDataFault : (file name : List ℕ) → ObjectFault → Type 0
IsDataFault file name e = IsNoneMeant file name e ⊎ ((m : Meant) × IsMeant file name m × IsMeantFault m.functions m.number e)
