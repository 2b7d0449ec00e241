-- What is asked for by a function that reads data of its file and the options, and why nothing is.
use Rattle.std.specs.Prelude.{◌≡◌, ◌⊎◌, ℕ, zero, suc, ◌++◌, List, Option, Some, None}
use Rattle.ebpf_object_file.specs.declared.data_function.DataFunction.{DataFunction}
use Rattle.ebpf_object_file.specs.DataFunction.{HasUses, IsDataFault, IsDataFunction}
use Rattle.ebpf_object_file.specs.File.{AreFunctions}
use Rattle.ebpf_state.specs.declared.kinds.KindRow.{KindRow}
use Rattle.ebpf_verify.specs.declared.decl.Decl.{Decl}
use Rattle.ebpf_command.specs.declared.done.FaultCode.{FaultCode}
use Rattle.ebpf_command.specs.Response.{Response}
use Rattle.ebpf_loader.specs.declared.fault.LoadFault.{LoadFault}
use Rattle.ebpf_loader.specs.declared.load.Loaded.{Loaded}
use Rattle.ebpf_loader.specs.Loading.{IsLoadedWith, IsLoadFault}
use Rattle.ebpf_input.specs.declared.ask.Ask.{Ask}
use Rattle.ebpf_input.specs.declared.data_request.DataRequest.{DataRequest}
use Rattle.ebpf_input.specs.declared.data_request.NoRequest.{NoRequest}
use Rattle.ebpf_input.specs.declared.data_request.NoRequest.TheVariants as no
use Rattle.ebpf_input.specs.declared.form.Form.TheVariants.{Raw}
use Rattle.ebpf_input.specs.Asked.{Asked, AreGiven, asked_for, fault_of}
use Rattle.ebpf_input.specs.ObjectText.{Refusing}

-- what is asked for by the function's own slots and the options
abbrev pub asked_of : Ask → DataFunction → Asked
asked_of ask f = asked_for Raw f.function.code.now ask.context.now ask.held

abbrev pub option_fault : Ask → DataFunction → Option FaultCode
option_fault ask f = fault_of Raw f.function.code.now ask.context.now ask.held

-- a slot of the linked program has the function's slot before it: there is one slot more, in front
abbrev pub own_slot : Option ℕ → Option ℕ
own_slot None = None
own_slot (Some zero) = None
own_slot (Some (suc slot)) = Some slot

-- the sections that a function uses are in its file, and so are the symbols
pub record CanNameData (file : List ℕ) (f : DataFunction) : Type 0 where
  pub uses : HasUses file f.uses.items
  pub functions : AreFunctions f.functions.file.now f.functions
  pub same : f.functions.file.now ≡ file

-- the linked program is asked for, with the data after the context
pub record IsJoined (f : DataFunction) (context : List ℕ) (l : Loaded) (r : DataRequest) : Type 0 where
  pub function : r.function ≡ f
  pub bytes : r.request.bytes.items ≡ l.bytes.items
  pub context_is : r.request.context.items ≡ context ++ l.data.items
  pub decl : r.request.decl ≡ l.decl
  pub data_is : r.data.items ≡ l.data.items
  pub word : r.word ≡ l.word

-- what a function is loaded as, for what is asked of it
pub record IsRequestOf (ask : Ask) (file : List ℕ) (f : DataFunction) (r : DataRequest) : Type 0 where
  pub fine : option_fault ask f ≡ None
  pub decl : Decl
  pub rows : List KindRow
  pub given : AreGiven (asked_of ask f) decl rows
  pub loaded : Loaded
  pub is : IsLoadedWith file f decl rows loaded
  pub joined : IsJoined f (asked_of ask f).context loaded r

pub record IsDataRequest (ask : Ask) (name file : List ℕ) (r : DataRequest) : Type 0 where
  pub function : DataFunction
  pub is : IsDataFunction file name function
  pub request : IsRequestOf ask file function r

-- why a function isn't loaded
pub record IsUnloaded (ask : Ask) (file : List ℕ) (f : DataFunction) (e : LoadFault) : Type 0 where
  pub fine : option_fault ask f ≡ None
  pub decl : Decl
  pub rows : List KindRow
  pub given : AreGiven (asked_of ask f) decl rows
  pub fault : IsLoadFault file f decl rows e

abbrev pub IsNoRequestOf : Ask → List ℕ → DataFunction → NoRequest → Type 0
IsNoRequestOf ask file f (no.Object e) = ⊥
IsNoRequestOf ask file f (no.Unused function code) = (function ≡ f) × (option_fault ask f ≡ Some code)
IsNoRequestOf ask file f (no.Unloaded function e) = (function ≡ f) × IsUnloaded ask file f e
IsNoRequestOf ask file f no.NoMemory = Unit {0}

abbrev pub IsNoRequest : Ask → (name file : List ℕ) → NoRequest → Type 0
IsNoRequest ask name file (no.Object e) = IsDataFault file name e
IsNoRequest ask name file (no.Unused function code) = IsDataFunction file name function × (option_fault ask function ≡ Some code)
IsNoRequest ask name file (no.Unloaded function e) = IsDataFunction file name function × IsUnloaded ask file function e
IsNoRequest ask name file no.NoMemory = Unit {0}

-- ---- the response of a command

abbrev pub asked_by : DataRequest → Asked
asked_by r = record { bytes = r.request.bytes.items; context = r.request.context.items; held = r.request.decl.held }

-- by its response to what is asked for, and to a function of which no request is made
abbrev pub RespondsData : Ask → (DataRequest → Response → Type 0) → (List ℕ → NoRequest → Response → Type 0) → Refusing
RespondsData ask Sends Refuses name file e response =
    ((r : DataRequest) × IsDataRequest ask name file r × Sends r response)
    ⊎ ((fault : NoRequest) × IsNoRequest ask name file fault × Refuses file fault response)
