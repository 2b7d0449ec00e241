-- One answer more in what a worker's store did.
use Rattle.std.proofs.Common.{◌≡◌, ◌+◌, ℕ, List, [], ◌∷◌, ◌++◌, ap, ◌∙◌, sym, arith, append-nil}
use Rattle.std.specs.List.{sum_by}
use Rattle.std.proofs.lemmas.List.Sums.{sum_by-append}
use Rattle.worker_pool.specs.declared.hands.Tools.{Tools}
use Rattle.worker_pool.specs.Numbering.{Numbered}
use Rattle.ebpf_machine.specs.Whole.{granted, refused, fetched}
use Rattle.worker_pool.specs.Going.{GoesBy, HasAnsweredAll}

more : (f : Numbered → ℕ) (start old new : ℕ) (before after made : List Numbered) → after ≡ before ++ made
    → old ≡ start + sum_by f before → new ≡ old + sum_by f made → new ≡ start + sum_by f after
more f start old new before after made is was now =
    let sum = ap (sum_by f) is ∙ sum_by-append f before made in
    omega (arith, sum, was, now)

-- several reports more
pub answered_all : {L : Type 0} (first old new : Tools L) (before after made : List Numbered) → after ≡ before ++ made
    → HasAnsweredAll first before old → HasAnsweredAll old made new → HasAnsweredAll first after new
answered_all first old new before after made is was now = record {
  table = now.table ∙ was.table;
  notes = now.notes ∙ was.notes;
  fetches = now.fetches ∙ was.fetches;
  lost = now.lost ∙ was.lost;
  granted_are = more (λ m. granted m.report.answers) _ _ _ before after made is was.granted_are now.granted_are;
  refused_are = more (λ m. refused m.report.answers) _ _ _ before after made is was.refused_are now.refused_are;
  fetched_are = more (λ m. fetched m.report.answers) _ _ _ before after made is was.fetched_are now.fetched_are;
}

-- one
pub answered_more : {L : Type 0} (first old new : Tools L) (before after : List Numbered) (n : Numbered) → after ≡ before ++ n ∷ []
    → HasAnsweredAll first before old → GoesBy old n.report.answers new → HasAnsweredAll first after new
answered_more first old new before after n is was now = answered_all first old new before after (n ∷ []) is was (record {
  table = now.table;
  notes = now.notes;
  fetches = now.fetches;
  lost = now.lost;
  granted_are = omega (arith, now.granted_are);
  refused_are = omega (arith, now.refused_are);
  fetched_are = omega (arith, now.fetched_are);
})

-- none
pub answered_same : {L : Type 0} (first old new : Tools L) (before after : List Numbered) → after ≡ before
    → HasAnsweredAll first before old → GoesBy old [] new → HasAnsweredAll first after new
answered_same first old new before after is was now = answered_all first old new before after [] (is ∙ sym (append-nil before)) was now
