use Rattle.std.proofs.Common.{◌≡◌, ℕ, ◌+◌, ◌<◌, ◌-◌, ◌⊎◌, inl, inr, refl, subst, arith}
use Rattle.std.proofs.lemmas.Bool.{cases_lt}
use Rattle.shared_cache.specs.Asking.{Begins, FoundBusy, WasAsked, WasBusy}
use Rattle.shared_cache.proofs.Moving.{moves_then}
use Rattle.shared_cache.proofs.Notes.{Notes, asked_after, asked_then, busy_after, busy_then, busy_was}
use Rattle.shared_cache.proofs.reaping.drain_all.Goals as goal

-- one more place was asked, or the slabs were busy
more : (old mid new : Notes) (place slabs : ℕ) → Begins old mid → Begins mid new → ((k : ℕ) → k < place → WasAsked old mid k ⊎ WasBusy old mid slabs)
    → WasAsked mid new place ⊎ FoundBusy mid new slabs → (k : ℕ) → k < place + 1 → WasAsked old new k ⊎ WasBusy old new slabs
more old mid new place slabs first then before now k below = elim (cases_lt k place) [
  | inl lower ↦ still (before k lower)
  | inr last ↦ let is : place ≡ k = omega arith in subst (λ (p : ℕ). WasAsked old new p ⊎ WasBusy old new slabs) is (this now)
]
  where
    still : WasAsked old mid k ⊎ WasBusy old mid slabs → WasAsked old new k ⊎ WasBusy old new slabs
    still (inl a) = inl (asked_then old mid new k a then)
    still (inr b) = inr (busy_then old mid new slabs b then)

    this : WasAsked mid new place ⊎ FoundBusy mid new slabs → WasAsked old new place ⊎ WasBusy old new slabs
    this (inl a) = inl (asked_after old mid new place first a)
    this (inr b) = inr (busy_after old mid new slabs first (busy_was mid new slabs b))

pub loop-place-preserved : goal.loop-place-preserved
loop-place-preserved g c =
    let i = c.loop-place.invariant in
    let e = c.drain_at.ensures in
    record {
      moves = moves_then _ _ _ 0 0 0 0 i.moves e.moves refl;
      why = more _ _ _ c.loop-place.place (c.args.row.now.places - 1) i.moves.notes e.moves.notes i.why e.why;
    }
