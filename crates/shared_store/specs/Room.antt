-- Room for the parts of tools.
use Rattle.std.specs.Prelude.{◌≡◌, ◌*◌, ◌≤◌, ℕ, [], vec_capacity}
use Rattle.std.specs.Global.{Vec}
use Rattle.shared_store.specs.declared.room.Room.{Room}

-- an empty list with room for this many
abbrev pub IsRoom : {X : Type 0} → ℕ → Vec X → Type 0
IsRoom n v = (v.items ≡ []) × (n ≤ vec_capacity v)

-- for the parts of this many tools, each of which has three seats
pub record HasRoom (n : ℕ) (r : Room) : Type 0 where
  pub passes : IsRoom n r.parts.passes
  pub cells : IsRoom n r.parts.cells × IsRoom n r.cells.0 × IsRoom n r.cells.1
  pub records : IsRoom n r.parts.records × IsRoom n r.records.0 × IsRoom n r.records.1
  pub blocks : IsRoom n r.parts.blocks × IsRoom n r.blocks.0 × IsRoom n r.blocks.1
  pub seats : IsRoom (3 * n) r.seats
