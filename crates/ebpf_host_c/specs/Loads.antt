-- What a load does, by the status that it returns.
use Rattle.std.specs.Prelude.{◌≡◌, ◌≢◌, ◌⊎◌, ℕ, List, Option, None}
use Rattle.std.specs.Arc.{arc_value}
use Rattle.std.specs.Option.{MatchOption}
use Rattle.std.specs.declared.alloc.Global.{Global}
use Rattle.std.specs.declared.sync.Arc.{Arc}
use Rattle.ebpf_object_file.specs.declared.data_function.DataFunction.{DataFunction}
use Rattle.ebpf_object_file.specs.declared.function.Function.{Function}
use Rattle.ebpf_object_file.specs.Function.{IsWanted}
use Rattle.ebpf_host.specs.declared.program.Program.{Program}
use Rattle.ebpf_host.specs.Loading.{IsInRange, IsOutOfRange}
use Rattle.ebpf_host_c.specs.declared.loading.Loops.{Loops}
use Rattle.ebpf_host_c.specs.declared.reported.InFile.{InFile}
use Rattle.ebpf_host_c.specs.declared.reported.Refused.{Refused}
use Rattle.ebpf_host_c.specs.declared.status.TheConstants.{DECLARATION, DONE, NO_MEMORY, REFUSED}
use Rattle.ebpf_host_c.specs.declared.with_data.Unloaded.{Unloaded}
use Rattle.ebpf_host_c.specs.declared.with_data.Unloaded.TheVariants.{Declaration}
use Rattle.ebpf_host_c.specs.Objects.{HasFault, HasFunction, IsLineAt, IsLineIn}
use Rattle.ebpf_host_c.specs.Reported.{IsRefusalReported}
use Rattle.ebpf_host_c.specs.Ways.{IsLoadedAlone, IsLoadedBy, IsRefusedBy}
use Rattle.ebpf_host_c.specs.WithData.{HasDataFunction, IsDataFunctionLoaded, IsDataFunctionRefused, IsDataLoaded, IsDataRefused, IsUnloadedReported}

-- The handle holds what the first says, or a refusal is written as the second says; the third holds if a declaration is out of range, and
-- the fourth if memory is wanted. A refusal alone is written, and a load that fails changes no handle.
pub record IsLoad (loads : Program → Type 0) (refuses : (room text : List ℕ) → Refused → Type 0) (out_of_range wanted : Type 0)
    (old new : Option (Arc Program Global)) (room text : List ℕ) (before after : Refused) (status : ℕ) : Type 0 where
  pub loaded : status ≡ DONE → MatchOption new ⊥ (λ p. loads (arc_value p))
  pub refused : status ≡ REFUSED → refuses room text after
  pub untold : status ≢ REFUSED → (text ≡ room) × (after ≡ before)
  pub declaration : status ≡ DECLARATION → out_of_range
  pub memory : status ≡ NO_MEMORY → wanted
  pub statuses : (status ≡ DONE) ⊎ (status ≡ REFUSED) ⊎ (status ≡ DECLARATION) ⊎ (status ≡ NO_MEMORY)
  pub kept : status ≢ DONE → new ≡ old

-- the load of slots, which may be those of a function of a file
abbrev pub LoadsIn : Option InFile → Loops → (context held : ℕ) → List ℕ
    → (old new : Option (Arc Program Global)) (room text : List ℕ) (before after : Refused) (status : ℕ) → Type 0
LoadsIn source loops context held code =
    IsLoad (IsLoadedAlone (IsLoadedBy loops context held code)) (IsRefusalReported (IsRefusedBy loops context held code) (IsLineIn source))
    (IsOutOfRange context held) (IsInRange context held)

abbrev pub Loads : Loops → (context held : ℕ) → List ℕ
    → (old new : Option (Arc Program Global)) (room text : List ℕ) (before after : Refused) (status : ℕ) → Type 0
Loads = LoadsIn None

-- ---- the load of a function with the data that it reads

-- what C is told of one of which no program is made
pub record RefusesData (file : List ℕ) (f : DataFunction) (why : Unloaded) (room text : List ℕ) (before after : Refused) (status : ℕ) : Type 0 where
  pub refused : status ≡ REFUSED → IsUnloadedReported why f file room text after
  pub untold : status ≢ REFUSED → (text ≡ room) × (after ≡ before)
  pub declaration : status ≡ DECLARATION → why ≡ Declaration
  pub statuses : (status ≡ REFUSED) ⊎ (status ≡ DECLARATION) ⊎ (status ≡ NO_MEMORY)

abbrev pub LoadsDataOf : Loops → (context held : ℕ) → List ℕ → DataFunction
    → (old new : Option (Arc Program Global)) (room text : List ℕ) (before after : Refused) (status : ℕ) → Type 0
LoadsDataOf loops context held file f =
    IsLoad (IsDataLoaded loops context held file f) (IsDataRefused loops context held file f) (IsOutOfRange context held) (Unit {0})

abbrev pub LoadsData : Loops → (context held : ℕ) → (file name : List ℕ)
    → (old new : Option (Arc Program Global)) (room text : List ℕ) (before after : Refused) (status : ℕ) → Type 0
LoadsData loops context held file name =
    IsLoad (IsDataFunctionLoaded loops context held file name) (IsDataFunctionRefused loops context held file name)
    (HasDataFunction file name × IsOutOfRange context held) (Unit {0})

-- ---- the load of a function, which is judged before the declaration

-- the function's slots are loaded; or it is no program by itself, and is loaded with its data
abbrev pub IsFunctionLoaded : Loops → (context held : ℕ) → (file name : List ℕ) → Program → Type 0
IsFunctionLoaded loops context held file name p =
    ((f : Function) × IsWanted file name f × IsLoadedAlone (IsLoadedBy loops context held f.code.now) p)
    ⊎ (HasFault file name × IsDataFunctionLoaded loops context held file name p)

-- its slots are refused; or it is no program by itself, and is refused with its data, or is in the file in no other way
abbrev pub IsFunctionRefused : Loops → (context held : ℕ) → (file name room text : List ℕ) → Refused → Type 0
IsFunctionRefused loops context held file name room text filled =
    ((f : Function) × IsWanted file name f × IsRefusalReported (IsRefusedBy loops context held f.code.now) (IsLineAt file f.place) room text filled)
    ⊎ (HasFault file name × IsDataFunctionRefused loops context held file name room text filled)

abbrev pub LoadsFunction : Loops → (context held : ℕ) → (file name : List ℕ)
    → (old new : Option (Arc Program Global)) (room text : List ℕ) (before after : Refused) (status : ℕ) → Type 0
LoadsFunction loops context held file name =
    IsLoad (IsFunctionLoaded loops context held file name) (IsFunctionRefused loops context held file name)
    ((HasFunction file name ⊎ HasDataFunction file name) × IsOutOfRange context held) (HasFault file name ⊎ IsInRange context held)
