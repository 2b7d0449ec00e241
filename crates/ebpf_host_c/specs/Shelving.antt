-- What C puts on shelves, and takes from there.
use Rattle.std.specs.Prelude.{◌≡◌, ◌<◌, ◌≤◌, ◌⊎◌, ◌==◌, if◌then◌else◌, ℕ, Bool, List, length, Option, Some, None}
use Rattle.std.specs.Option.{MatchOption}
use Rattle.ebpf_object.specs.declared.kind_name.KindName.{KindName}
use Rattle.ebpf_object.specs.declared.kind_name.KindName.TheVariants.{Cell, Record, Block}
use Rattle.ebpf_host.specs.declared.stocks.Stocks.{Stocks}
use Rattle.ebpf_host.specs.Shelving.{IsFetched, IsPut, ShelfChanges, image_of, on_shelf}
use Rattle.ebpf_host.specs.Workers.{HasTaken}
use Rattle.ebpf_object.specs.KindName.{number_of}
use Rattle.shared_store.specs.Putting.{HasPut}
use Rattle.shared_store.specs.Tools.{ToolsView}
use Rattle.ebpf_host_c.specs.declared.status.TheConstants.{DONE, KIND, LENGTH, NO_OBJECT}

-- the kind with this number
abbrev pub kind_of : ℕ → Option KindName
kind_of n = if n == 0 then Some Cell else if n == 1 then Some Record else if n == 2 then Some Block else None

-- only the stock of the kind with this number changes, and of it runs hold as many objects; nothing does if there is no such kind
abbrev pub ChangesAt : ℕ → Stocks → Stocks → Type 0
ChangesAt kind before after = MatchOption (kind_of kind) (after ≡ before) (λ k. ShelfChanges before after k)

-- there is a kind with the number, a machine is held, and an object with these bytes is on its shelf of that kind
abbrev pub IsPutOn : ℕ → List ℕ → Option Stocks → Option Stocks → Bool → Type 0
IsPutOn kind bytes old new replaced =
    MatchOption (kind_of kind) ⊥ (λ k. MatchOption old ⊥ (λ before. MatchOption new ⊥ (λ after. IsPut (image_of k) bytes (on_shelf before k) (on_shelf after k) replaced)))

-- there is a kind with the number, a machine is held, and what was on its shelf of that kind was taken
abbrev pub IsTakenFrom : ℕ → Option Stocks → Option Stocks → (room filled : List ℕ) → Bool → Type 0
IsTakenFrom kind old new room filled found =
    MatchOption (kind_of kind) ⊥ (λ k. MatchOption old ⊥ (λ before. MatchOption new ⊥ (λ after. IsFetched found (on_shelf before k) (on_shelf after k) room filled)))

-- the same by a worker
abbrev pub IsPutBy : ℕ → (old new : Option ToolsView) → (replaced : Bool) → Type 0
IsPutBy kind old new replaced =
    MatchOption (kind_of kind) ⊥ (λ k. MatchOption old ⊥ (λ before. MatchOption new ⊥ (λ after. HasPut before after k replaced)))

abbrev pub IsTakenBy : ℕ → (old new : Option ToolsView) → (room filled : List ℕ) → (found : Bool) → Type 0
IsTakenBy kind old new room filled found =
    MatchOption (kind_of kind) ⊥ (λ k. MatchOption old ⊥ (λ before. MatchOption new ⊥ (λ after. HasTaken before after (number_of k) found room filled)))

-- what a call with that many bytes returns: an object of the kind has as many, or fewer
abbrev pub IsPutStatus : ℕ → (length : ℕ) → (status : ℕ) → Type 0
IsPutStatus kind len status = MatchOption (kind_of kind) (status ≡ KIND) (λ k.
    ((len ≤ length (image_of k)) × ((status ≡ DONE) ⊎ (status ≡ NO_OBJECT))) ⊎ ((length (image_of k) < len) × (status ≡ LENGTH)))

abbrev pub IsTakeStatus : ℕ → (status : ℕ) → Type 0
IsTakeStatus kind status = MatchOption (kind_of kind) (status ≡ KIND) (λ _. status ≡ DONE)
