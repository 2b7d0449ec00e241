-- What becomes of a function that is linked with the data that it reads of its file.
use Rattle.std.specs.Prelude.{◌≡◌, ◌==◌, ◌-◌, ◌⊎◌, ℕ, List, Option, Some, None, cond}
use Rattle.ebpf_object_file.specs.declared.data_function.DataFunction.{DataFunction}
use Rattle.ebpf_object_file.specs.declared.outside.Place.{Place}
use Rattle.ebpf_object_file.specs.declared.object_fault.ObjectFault.{ObjectFault}
use Rattle.ebpf_object_file.specs.DataFunction.{IsDataFault, IsDataFunction}
use Rattle.ebpf_link.specs.declared.fault.LinkFault.TheVariants.{NoWord}
use Rattle.ebpf_loader.specs.declared.fault.LoadFault.{LoadFault}
use Rattle.ebpf_loader.specs.declared.load.Loaded.{Loaded}
use Rattle.ebpf_loader.specs.Loading.{IsLoadedWith, IsLoadFault}
use Rattle.ebpf_loader.specs.Sentences.{link_sentence}
use Rattle.ebpf_state.specs.declared.kinds.KindRow.{KindRow}
use Rattle.ebpf_verify.specs.declared.decl.Decl.{Decl}
use Rattle.ebpf_verify.specs.Subject.{Subject}
use Rattle.ebpf_host.specs.declared.program.Program.{Program}
use Rattle.ebpf_host.specs.declared.refusal.Refusal.{Refusal}
use Rattle.ebpf_host.specs.Loading.{AreDeclared, IsOutOfRange}
use Rattle.ebpf_host_c.specs.declared.loading.Loops.{Loops}
use Rattle.ebpf_host_c.specs.declared.reported.Refused.{Refused}
use Rattle.ebpf_host_c.specs.declared.said.Said.{Said}
use Rattle.ebpf_host_c.specs.declared.with_data.Unloaded.{Unloaded}
use Rattle.ebpf_host_c.specs.declared.with_data.Unloaded.TheVariants as unloaded
use Rattle.ebpf_host_c.specs.Objects.{IsFaultReported, IsLineAt}
use Rattle.ebpf_host_c.specs.Reported.{IsReportedWith}
use Rattle.ebpf_host_c.specs.Said.{IsLoadFaultSaid, IsSaidReported, IsUnlinkedSaid}
use Rattle.ebpf_host_c.specs.Ways.{IsKept, IsLoadedBy, IsRefusedBy, IsUnshown}

-- the file has the function, and its relocations are all of data that can be loaded
abbrev pub HasDataFunction : (file name : List ℕ) → Type 0
HasDataFunction file name = (f : DataFunction) × IsDataFunction file name f

-- what it is linked as, for what is declared of its context
pub record IsLinkedFor (context held : ℕ) (file : List ℕ) (f : DataFunction) (l : Loaded) : Type 0 where
  pub decl : Decl
  pub rows : List KindRow
  pub declared : AreDeclared context held decl rows
  pub is : IsLoadedWith file f decl rows l

-- why it can't be
pub record IsLinkFault (context held : ℕ) (file : List ℕ) (f : DataFunction) (e : LoadFault) : Type 0 where
  pub decl : Decl
  pub rows : List KindRow
  pub declared : AreDeclared context held decl rows
  pub is : IsLoadFault file f decl rows e

-- the linked slots are loaded as any are, for the context with the data
abbrev pub IsLinkedLoaded : Loops → Loaded → Subject → Type 0
IsLinkedLoaded loops l = IsLoadedBy loops l.decl.context l.decl.held l.bytes.items

abbrev pub IsLinkedRefused : Loops → Loaded → Refusal → Type 0
IsLinkedRefused loops l = IsRefusedBy loops l.decl.context l.decl.held l.bytes.items

-- ---- a program of it

-- the linked slots are loaded, the word is right, and the data is the program's
pub record IsMadeOf (loops : Loops) (l : Loaded) (p : Program) : Type 0 where
  pub is : IsLinkedLoaded loops l p.verified
  pub kept : IsKept loops p.verified l.word
  pub after : p.data.items ≡ l.data.items

pub record IsDataLoaded (loops : Loops) (context held : ℕ) (file : List ℕ) (f : DataFunction) (p : Program) : Type 0 where
  pub linked : Loaded
  pub is_linked : IsLinkedFor context held file f linked
  pub made : IsMadeOf loops linked p

abbrev pub IsDataFunctionLoaded : Loops → (context held : ℕ) → (file name : List ℕ) → Program → Type 0
IsDataFunctionLoaded loops context held file name p =
    (f : DataFunction) × IsDataFunction file name f × IsDataLoaded loops context held file f p

-- ---- why there is none

-- it isn't linked, which is said
pub record IsUnlinked (context held : ℕ) (file : List ℕ) (f : DataFunction) (s : Said) : Type 0 where
  pub fault : LoadFault
  pub is : IsLinkFault context held file f fault
  pub said : IsLoadFaultSaid file f.function.code.now fault s

-- the linked slots would be loaded, but the word isn't certain to be right
pub record IsUncertain (loops : Loops) (l : Loaded) (s : Said) : Type 0 where
  pub subject : Subject
  pub is : IsLinkedLoaded loops l subject
  pub unshown : IsUnshown loops subject l.word
  pub said : IsUnlinkedSaid None (link_sentence NoWord) s

-- what comes of linked slots of which no program is made
abbrev pub IsUnmade : Loops → Loaded → Unloaded → Type 0
IsUnmade loops l unloaded.Declaration = ⊥
IsUnmade loops l (unloaded.Told s) = IsUncertain loops l s
IsUnmade loops l (unloaded.Rejected r) = IsLinkedRefused loops l r
IsUnmade loops l unloaded.NoMemory = Unit {0}

-- the same of a function
abbrev pub IsTold : Loops → (context held : ℕ) → List ℕ → DataFunction → Said → Type 0
IsTold loops context held file f s =
    IsUnlinked context held file f s ⊎ ((l : Loaded) × IsLinkedFor context held file f l × IsUncertain loops l s)

abbrev pub IsRejected : Loops → (context held : ℕ) → List ℕ → DataFunction → Refusal → Type 0
IsRejected loops context held file f r = (l : Loaded) × IsLinkedFor context held file f l × IsLinkedRefused loops l r

abbrev pub IsUnloaded : Loops → (context held : ℕ) → List ℕ → DataFunction → Unloaded → Type 0
IsUnloaded loops context held file f unloaded.Declaration = IsOutOfRange context held
IsUnloaded loops context held file f (unloaded.Told s) = IsTold loops context held file f s
IsUnloaded loops context held file f (unloaded.Rejected r) = IsRejected loops context held file f r
IsUnloaded loops context held file f unloaded.NoMemory = Unit {0}

-- ---- what C is given of that

-- the function's slot of a slot of the linked program, which has one more in front
abbrev pub function_slot : Option ℕ → Option ℕ
function_slot None = None
function_slot (Some slot) = cond (slot == 0) None (Some (slot - 1))

-- a refusal of the linked program has the line of C of the function's slot
abbrev pub IsRejectionReported : Refusal → Place → (file room text : List ℕ) → Refused → Type 0
IsRejectionReported r p file room text filled = IsReportedWith r (λ slot. IsLineAt file p (function_slot slot)) room text filled

-- what is said of it, or its refusal
abbrev pub IsUnloadedReported : Unloaded → DataFunction → (file room text : List ℕ) → Refused → Type 0
IsUnloadedReported (unloaded.Told s) f file room text filled = IsSaidReported s file f.function.place room text filled
IsUnloadedReported (unloaded.Rejected r) f file room text filled = IsRejectionReported r f.function.place file room text filled
IsUnloadedReported _ f file room text filled = ⊥

pub record IsDataRefused (loops : Loops) (context held : ℕ) (file : List ℕ) (f : DataFunction) (room text : List ℕ) (filled : Refused) : Type 0 where
  pub why : Unloaded
  pub is : IsUnloaded loops context held file f why
  pub reported_as : IsUnloadedReported why f file room text filled

abbrev pub IsDataFunctionRefused : Loops → (context held : ℕ) → (file name room text : List ℕ) → Refused → Type 0
IsDataFunctionRefused loops context held file name room text filled =
    ((f : DataFunction) × IsDataFunction file name f × IsDataRefused loops context held file f room text filled)
    ⊎ ((e : ObjectFault) × IsDataFault file name e × IsFaultReported file e room text filled)
