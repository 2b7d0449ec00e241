-- Bundles in their places have a report of each job, in the order of the jobs.
use Rattle.std.proofs.Common.{◌≡◌, ◌<◌, ◌≤◌, ◌+◌, ◌-◌, ◌*◌, ℕ, suc, Bool, true, false, nat_le, All, Contains, Some, List, [], ◌∷◌, length, refl}
use Rattle.std.proofs.Common.{sym, ap, subst, ◌∙◌, arith, length-append, suc-mul}
use Rattle.std.specs.List.{slice_get}
use Rattle.std.proofs.lemmas.Bool.Decides.{nat_tests}
use Rattle.std.proofs.lemmas.List.{nil_from_length}
use Rattle.std.proofs.lemmas.List.Elements.{All-append, All-contains, All-nil}
use Rattle.ebpf_machine.specs.declared.report.Report.{Report}
use Rattle.worker_pool.specs.declared.answered.Bundle.{Bundle}
use Rattle.worker_pool.specs.Numbering.{IsWhole, Numbered, bundles_in, many_in, numbered, told_of}
use Rattle.job_list.specs.ReportLists.{Kept, all_in}
use Rattle.worker_pool.specs.Places.{IsThere}
use Rattle.worker_pool.proofs.Bundles.{reach}
use Rattle.worker_pool.proofs.NumberingLemmas.{numbered_more}

-- the reports of the bundles from number x on: as many as jobs are left, and good with their numbers
record AreFrom (size count : ℕ) (good : Numbered → Type 0) (x : ℕ) (places : List Kept) : Type 0 where
  pub len : length (all_in places) ≡ count - x * size
  pub told : All good (numbered (x * size) (all_in places))

-- a bundle at the place i of those from number x on
record IsAt (all : List Bundle) (places : List Kept) (x i : ℕ) : Type 0 where
  pub bundle : Bundle
  pub one : Contains all bundle
  pub number : bundle.number ≡ x + i
  pub at : slice_get places i ≡ Some bundle.reports

module _ (size count : ℕ) (some : 0 < size) (good : Numbered → Type 0) (all : List Bundle) (whole : All (IsWhole size count) all)
    (told : (b : Bundle) → Contains all b → All good (told_of size b)) where
  -- a bundle more before the others
  module _ (x : ℕ) (k : Kept) (ks : List Kept) (first : IsAt all (k ∷ ks) x 0) (rest : AreFrom size count good (suc x) ks) where
    number : first.bundle.number ≡ x
    number = omega (arith, first.number)

    kept : first.bundle.reports.items ≡ k.items
    kept = let same : k ≡ first.bundle.reports = let at = first.at in cc in ap (λ (v : Kept). v.items) (sym same)

    own : length k.items ≡ many_in size count x
    own = ap (λ (l : List Report). length l) (sym kept) ∙ (All-contains (IsWhole size count) all first.bundle whole first.one).all ∙ ap (many_in size count) number

    here : All good (numbered (x * size) k.items)
    here =
        let same = ap (λ (n : ℕ). numbered (n * size) first.bundle.reports.items) number ∙ ap (numbered (x * size)) kept in
        subst (All good) same (told first.bundle first.one)

    sum : length (all_in (k ∷ ks)) ≡ length k.items + length (all_in ks)
    sum = length-append k.items (all_in ks)

    step : suc x * size ≡ x * size + size
    step = suc-mul x size

    -- the next bundle's first job comes after this one's last, where there is one
    onward : (b : Bool) → nat_le (suc x * size) count ≡ b → All good (numbered (x * size + length k.items) (all_in ks))
    onward true e =
        let within : suc x * size ≤ count = grind (arith, nat_tests) in
        let start : suc x * size ≡ x * size + length k.items = omega (arith, within, own, step) in
        subst (λ (n : ℕ). All good (numbered n (all_in ks))) start rest.told
    onward false e =
        let past : count < suc x * size = grind (arith, nat_tests) in
        let none : all_in ks ≡ [] = nil_from_length (all_in ks) (omega (arith, past, rest.len)) in
        subst (λ (l : List Report). All good (numbered (x * size + length k.items) l)) (sym none) (All-nil good)

    one_more : AreFrom size count good x (k ∷ ks)
    one_more = record {
      len = omega (arith, sum, rest.len, own, step);
      told = subst (All good) (sym (numbered_more (x * size) k.items (all_in ks))) (All-append good _ _ here (onward (nat_le (suc x * size) count) refl));
    }

  later : (x i : ℕ) (k : Kept) (ks : List Kept) → IsAt all (k ∷ ks) x (suc i) → IsAt all ks (suc x) i
  later x i k ks t = record { bundle = t.bundle; one = t.one; number = omega (arith, t.number); at = t.at }

  from : (x : ℕ) (places : List Kept) → x + length places ≡ bundles_in size count
      → ((i : ℕ) → i < length places → IsAt all places x i) → AreFrom size count good x places
  from x [] end there =
      let last : x ≡ bundles_in size count = omega (arith, end) in
      let reached = reach size count some in
      let same = ap (λ (n : ℕ). n * size) last in
      record { len = omega (arith, reached, same); told = All-nil good }
  from x (k ∷ ks) end there =
      one_more x k ks (there 0 (omega arith)) (from (suc x) ks (omega (arith, end)) (λ i lt. later x i k ks (there (suc i) (omega (arith, lt)))))

  module _ (places : List Kept) (len : length places ≡ bundles_in size count) (there : (x : ℕ) → x < bundles_in size count → IsThere all places x) where
    whole_list : AreFrom size count good 0 places
    whole_list = from 0 places (omega (arith, len)) (λ i lt. by i (there i (omega (arith, lt, len)))) where
      by : (i : ℕ) → IsThere all places i → IsAt all places 0 i
      by i t = record { bundle = t.bundle; one = t.one; number = omega (arith, t.number); at = t.at }

    pub all_len : length (all_in places) ≡ count
    all_len = omega (arith, whole_list.len)

    pub all_told : All good (numbered 0 (all_in places))
    all_told = let start : 0 * size ≡ 0 = omega arith in subst (λ (n : ℕ). All good (numbered n (all_in places))) start whole_list.told
