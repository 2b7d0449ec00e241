-- Reports with the numbers of their jobs: one more, those of a bundle more, and one by its place.
use Rattle.std.proofs.Common.{◌≡◌, ◌+◌, ℕ, zero, suc, Contains, Some, List, [], ◌∷◌, ◌++◌, length, refl, ap, subst, ◌∙◌, arith}
use Rattle.std.specs.Prelude.{sum_by}
use Rattle.std.specs.List.{flat_map, slice_get}
use Rattle.std.proofs.lemmas.List.Sums.{sum_by-cons}
use Rattle.ebpf_machine.proofs.Lists.ListLemmas.{Contains-head, Contains-tail}
use Rattle.ebpf_machine.specs.declared.report.Report.{Report}
use Rattle.worker_pool.specs.declared.answered.Answered.{Answered}
use Rattle.worker_pool.specs.declared.answered.Bundle.{Bundle}
use Rattle.worker_pool.specs.Numbering.{Numbered, numbered, told_by, told_of}
use Rattle.worker_pool.specs.Places.{weight_of}
use Rattle.worker_pool.proofs.Flat.{flat_last}

pub numbered_more : (job : ℕ) (reports more : List Report) → numbered job (reports ++ more) ≡ numbered job reports ++ numbered (job + length reports) more
numbered_more job [] more = let same : job ≡ job + 0 = omega arith in ap (λ (k : ℕ). numbered k more) same
numbered_more job (r ∷ rs) more =
    let on : (job + 1) + length rs ≡ job + suc (length rs) = omega arith in
    ap (λ (l : List Numbered). record { job = job; report = r } ∷ l)
    (numbered_more (job + 1) rs more ∙ ap (λ (k : ℕ). numbered (job + 1) rs ++ numbered k more) on)

pub numbered_length : (job : ℕ) (reports : List Report) → length (numbered job reports) ≡ length reports
numbered_length job [] = refl
numbered_length job (r ∷ rs) = ap suc (numbered_length (job + 1) rs)

pub numbered_weight : (h : Report → ℕ) (job : ℕ) (reports : List Report) → weight_of h (numbered job reports) ≡ sum_by h reports
numbered_weight h job [] = refl
numbered_weight h job (r ∷ rs) =
    omega (arith, sum_by-cons (λ (n : Numbered). h n.report) (record { job = job; report = r }) (numbered (job + 1) rs), sum_by-cons h r rs, numbered_weight h (job + 1) rs)

-- the report at a place has the number of the place
pub numbered_at : (job : ℕ) (reports : List Report) (k : ℕ) (r : Report) → slice_get reports k ≡ Some r
    → Contains (numbered job reports) (record { job = job + k; report = r })
numbered_at job [] k r at = absurd (cc)
numbered_at job (q ∷ qs) zero r at =
    let same : job ≡ job + 0 = omega arith in
    let it : q ≡ r = cc in
    let this : record { job = job; report = q } ≡ record { job = job + 0; report = r } =
    ap (λ (j : ℕ). record { job = j; report = q }) same ∙ ap (λ (p : Report). record { job = job + 0; report = p }) it
    in
    subst (Contains (numbered job (q ∷ qs))) this (Contains-head (record { job = job; report = q }) (numbered (job + 1) qs))
numbered_at job (q ∷ qs) (suc k) r at =
    let on : (job + 1) + k ≡ job + suc k = omega arith in
    subst (λ (j : ℕ). Contains (numbered job (q ∷ qs)) (record { job = j; report = r })) on
    (Contains-tail (record { job = job; report = q }) _ (numbered (job + 1) qs) (numbered_at (job + 1) qs k r at))

-- a bundle more
pub told_more : (size : ℕ) (before after : Answered) (b : Bundle) → after.bundles.items ≡ before.bundles.items ++ b ∷ []
    → told_by size after ≡ told_by size before ++ told_of size b
told_more size before after b is = ap (flat_map (told_of size)) is ∙ flat_last (told_of size) before.bundles.items b
