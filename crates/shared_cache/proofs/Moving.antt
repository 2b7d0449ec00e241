-- What a pass moved, step after step, and rounds that move.
use Rattle.std.proofs.Common.{◌≡◌, ℕ, ◌+◌, length, length-append, ◌∙◌, arith}
use Rattle.std.specs.Prelude.{Result, Ok, Err, MatchResult, OnErr, IfOk}
use Rattle.magazine.specs.LayerView.{LayerView, rounds_of}
use Rattle.shared_row.specs.Views.{PassView}
use Rattle.shared_cache.specs.Asking.{Begins, Moves}
use Rattle.shared_cache.proofs.Notes.{begins_then}

-- what was gained first was lost then
pub moves_then : (a b c : PassView) (gained lost more less : ℕ) → Moves a b gained lost → Moves b c more less → less ≡ gained → Moves a c more lost
moves_then a b c gained lost more less one two same = record {
  table = two.table ∙ one.table;
  parts = two.parts ∙ one.parts;
  idle = two.idle;
  even = omega (arith, one.even, two.even, same);
  notes = begins_then a.notes b.notes c.notes one.notes two.notes;
}

-- the rounds of a layer
pub many : (l : LayerView) → length (rounds_of l) ≡ length l.loaded + length l.previous
many l = length-append l.loaded l.previous

-- what holds in any case holds of an error
pub on_err : {A E : Type 0} (r : Result A E) (P : Type 0) → P → OnErr r P
on_err (Ok x) P p = tt
on_err (Err e) P p = p

-- and the notes go on either way
pub begins_either : {A E : Type 0} (r : Result A E) (a b : PassView) (gained lost more less : ℕ)
    → MatchResult r (λ _. Moves a b gained lost) (λ _. Moves a b more less) → Begins a.notes b.notes
begins_either (Ok x) a b gained lost more less m = m.notes
begins_either (Err e) a b gained lost more less m = m.notes

-- and of a value
pub if_ok : {A E : Type 0} (r : Result A E) (P : A → Type 0) → ((x : A) → P x) → IfOk r P
if_ok (Ok x) P p = p x
if_ok (Err e) P p = tt
