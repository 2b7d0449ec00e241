-- Slabs that get a page of an arena.
use Rattle.std.specs.Prelude.{◌≡◌, ℕ, ◌∷◌, sum_by, IsPermutation}
use Rattle.vmem_arena.specs.Spans.{Spans, AreFree}
use Rattle.vmem_arena.specs.Spans.{Pages as SpanPages}
use Rattle.slab_layer.specs.Slots.{Pages, Has, AddsPage}

-- a page that was free is out of the arena now, and its n slots are the slabs', who didn't have it
pub record GrowsBy (old new : Pages) (before after : Spans) (objects : ℕ) : Type 0 where
  pub page : ℕ
  pub free : AreFree before page 1
  pub spent : IsPermutation (record { first = page; len = 1 } ∷ before.out) after.out
  pub not_had : Has old page → ⊥
  pub added : AddsPage old new page objects

-- the same spans are out as before, however they are weighed
abbrev pub KeepsOut : Spans → Spans → Type 0
KeepsOut before after = (weight : SpanPages → ℕ) → sum_by weight after.out ≡ sum_by weight before.out
