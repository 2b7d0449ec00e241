-- How an object leaves a run.
use Rattle.std.proofs.Common.{Vec, Global}
use Rattle.std.specs.Prelude.{◌≡◌, ◌<◌, ℕ, length, Option, Some, None, slice_index_or, vec_capacity}
use Rattle.std.specs.List.{remove}
use Rattle.ebpf_machine.specs.declared.holding.Holding.{Holding}
use Rattle.ebpf_machine.specs.Flows.{object_in}
use Rattle.ebpf_machine.specs.RunState.{RunState}

-- what was at a place is taken from those that are held, and the others stay in their order
pub record IsTaken {H : Type 0} (place : ℕ) (before after : Vec (Holding H) Global) (taken : Holding H) : Type 0 where
  pub value : taken ≡ slice_index_or before.items place taken
  pub items : after.items ≡ remove before.items place
  pub capacity : vec_capacity after ≡ vec_capacity before

-- an object left the run, and nothing else did
pub record IsHandedOut {H : Type 0} (h : Holding H) (r t : RunState H) : Type 0 where
  pub place : ℕ
  pub inside : place < length r.held
  pub is : slice_index_or r.held place h ≡ h
  pub left : t ≡ record r { held = remove r.held place }

-- the object that r2 names left the run, where it names one
abbrev pub HasParted : {H : Type 0} → Option H → RunState H → RunState H → Type 0
HasParted None r t = (object_in (slice_index_or r.registers 2 None) ≡ None) × (t ≡ r)
HasParted {H = H} (Some object) r t = (h : Holding H) × (h.object ≡ object) × (object_in (slice_index_or r.registers 2 None) ≡ Some h.call) × IsHandedOut h r t
