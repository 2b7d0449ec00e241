-- Sums over jobs, from the front.
use Rattle.std.proofs.Common.{◌≡◌, ◌≢◌, ◌⊎◌, inl, inr, ℕ, zero, suc, ◌+◌, ◌<◌, ◌≤◌, ◌==◌, cond, Bool, false, true, List, [], ◌∷◌, ◌++◌, length}
use Rattle.std.proofs.Common.{length-set, drop, get_or, None, Some, Vec, Global, Result, Ok, Err, refl, sym, ap, ◌∙◌, subst, arith}
use Rattle.std.specs.Prelude.{IfOk, slice_get, slice_set}
use Rattle.std.proofs.lemmas.Bool.Decides.{nat_tests}
use Rattle.std.proofs.lemmas.Bool.{cases_eq}
use Rattle.std.proofs.lemmas.List.{length_push}
use Rattle.std.proofs.lemmas.Option.{get_or_from_slice_get, slice_get_cases, slice_get_within}
use Rattle.ebpf_machine.proofs.Lists.ListLemmas.{get_set_cases}
use Rattle.ebpf_machine.specs.declared.report.Report.{Report}
use Rattle.job_list.specs.declared.jobs.Job.{Job}
use Rattle.ebpf_verify.specs.Subject.{Subject}
use Rattle.ebpf_cover.specs.declared.counts.Counts.{Counts}
use Rattle.ebpf_cover.specs.declared.tally.Tally.{Tally}
use Rattle.ebpf_cover.specs.Stretches.{goes_on, passed, IsTally, begun_at, executed_so_far, taken_so_far}
use Rattle.ebpf_cover.specs.Tallies.{Each, AreTallies, AreBlank, IsSum, AreSums}
use Rattle.ebpf_cover.specs.Covered.{AreCounts, AreAllCounts, IsRunCounted, executed_by, taken_by, executed_in, taken_in, sum_of}

-- with the job of this number, and those after it
pub sum_from : (count : Job → Report → ℕ) (program k : ℕ) (jobs : List Job) (reports : List Report) (d : Job) (e : Report) → k < length jobs → length reports ≡ length jobs
    → sum_of count program (drop k jobs) (drop k reports)
    ≡ cond ((get_or jobs k d).program == program) (count (get_or jobs k d) (get_or reports k e)) 0 + sum_of count program (drop (k + 1) jobs) (drop (k + 1) reports)
unfolding sum_of
sum_from count program k [] reports d e few all = absurd (omega (arith, few))
sum_from count program k (job ∷ jobs) [] d e few all = absurd (omega (arith, all))
sum_from count program zero (job ∷ jobs) (r ∷ reports) d e few all = refl
sum_from count program (suc k) (job ∷ jobs) (r ∷ reports) d e few all = let one : suc k + 1 ≡ suc (k + 1) = omega arith in rw one (sum_from count program k jobs reports d e (omega (arith, few)) (omega (arith, all)))

-- the report that is next, and those after it
pub next_is : (reports rest : List Report) (k : ℕ) (r : Report) → drop k reports ≡ r ∷ rest → get_or reports k r ≡ r
next_is [] rest zero r at = refl
next_is [] rest (suc k) r at = refl
next_is (q ∷ qs) rest zero r at = cc
next_is (q ∷ qs) rest (suc k) r at = next_is qs rest k r at

pub rest_is : (reports rest : List Report) (k : ℕ) (r : Report) → drop k reports ≡ r ∷ rest → rest ≡ drop (k + 1) reports
rest_is [] rest zero r at = absurd (cc)
rest_is [] rest (suc k) r at = absurd (cc)
rest_is (q ∷ qs) rest zero r at = cc
rest_is (q ∷ qs) rest (suc k) r at = let one : suc k + 1 ≡ suc (k + 1) = omega arith in rw one (rest_is qs rest k r at)

-- one is left before the last
pub some_left : (reports : List Report) (k : ℕ) → k < length reports → drop k reports ≡ [] → ⊥
some_left [] k below none = absurd (omega (arith, below))
some_left (q ∷ qs) zero below none = absurd (cc)
some_left (q ∷ qs) (suc k) below none = some_left qs k (omega (arith, below)) none

-- none are left after the last
pub sum_past : (count : Job → Report → ℕ) (program : ℕ) (jobs : List Job) (reports : List Report) → sum_of count program (drop (length jobs) jobs) (drop (length reports) reports) ≡ 0
unfolding sum_of
sum_past count program [] reports = refl
sum_past count program (job ∷ jobs) [] = none (drop (length jobs) jobs) where
  none : (rest : List Job) → sum_of count program rest [] ≡ 0
  none [] = refl
  none (j ∷ rest) = refl
sum_past count program (job ∷ jobs) (r ∷ reports) = sum_past count program jobs reports

pub is_same : (a b : ℕ) → a ≡ b → (a == b) ≡ true
is_same a b e = grind (arith, nat_tests)

pub is_other : (a b : ℕ) → a ≢ b → (a == b) ≡ false
is_other a b e = grind (arith, nat_tests)

-- ---- counts of the jobs before this number

-- with those that are left they come to the whole sum
pub record AreCountsTo (s : Subject) (program : ℕ) (jobs : List Job) (reports : List Report) (k : ℕ) (executed_now taken_now : ℕ → ℕ) : Type 0 where
  pub executed : (slot : ℕ) → executed_now slot + executed_in s program (drop k jobs) (drop k reports) slot ≡ executed_in s program jobs reports slot
  pub taken : (slot : ℕ) → taken_now slot + taken_in s program (drop k jobs) (drop k reports) slot ≡ taken_in s program jobs reports slot

-- nothing begun is nothing executed
none_passed : (on : ℕ → Bool) (begun : ℕ → ℕ) → ((slot : ℕ) → begun slot ≡ 0) → (slot : ℕ) → passed on begun slot ≡ 0
unfolding passed
none_passed on begun none zero = none 0
none_passed on begun none (suc slot) = let one = none (suc slot) in let more = of_none (on slot) (passed on begun slot) (none_passed on begun none slot) in omega (arith, one, more) where
  of_none : (b : Bool) (n : ℕ) → n ≡ 0 → cond {A = ℕ} b n 0 ≡ 0
  of_none true n e = e
  of_none false n e = refl

pub none_before : (s : Subject) (program : ℕ) (jobs : List Job) (reports : List Report) (t : Tally) → ((slot : ℕ) → begun_at t slot ≡ 0) → ((slot : ℕ) → taken_so_far t slot ≡ 0)
    → AreCountsTo s program jobs reports 0 (executed_so_far s.program t) (taken_so_far t)
none_before s program jobs reports t begun taken = record {
  executed = λ slot. let none = none_passed (goes_on s.program) (begun_at t) begun slot in omega (arith, none);
  taken = λ slot. omega (arith, taken slot);
}

-- a job of the program is counted
pub job_counted : (s : Subject) (program : ℕ) (jobs : List Job) (reports : List Report) (k : ℕ) (executed_was taken_was executed_is taken_is : ℕ → ℕ) (job : Job) (r : Report) → k < length jobs
    → length reports ≡ length jobs → get_or jobs k job ≡ job → get_or reports k r ≡ r → (job.program == program) ≡ true → AreCountsTo s program jobs reports k executed_was taken_was
    → IsRunCounted s job.context r executed_was taken_was executed_is taken_is → AreCountsTo s program jobs reports (k + 1) executed_is taken_is
job_counted s program jobs reports k executed_was taken_was executed_is taken_is job r few all job_is report_is its h counted = record {
  executed = λ slot. let e = from (λ job r. executed_by s job.context slot r) in omega (arith, e, h.executed slot, counted.executed slot);
  taken = λ slot. let e = from (λ job r. taken_by s job.context slot r) in omega (arith, e, h.taken slot, counted.taken slot);
}
  where
    from : (count : Job → Report → ℕ) → sum_of count program (drop k jobs) (drop k reports) ≡ count job r + sum_of count program (drop (k + 1) jobs) (drop (k + 1) reports)
    from count =
        let rest = sum_of count program (drop (k + 1) jobs) (drop (k + 1) reports) in
        sum_from count program k jobs reports job r few all
        ∙ ap (λ (j : Job). cond (j.program == program) (count j (get_or reports k r)) 0 + rest) job_is
        ∙ ap (λ (x : Report). cond (job.program == program) (count job x) 0 + rest) report_is
        ∙ ap (λ (b : Bool). cond b (count job r) 0 + rest) its

-- one of another program isn't
pub job_passed : (s : Subject) (program : ℕ) (jobs : List Job) (reports : List Report) (k : ℕ) (executed taken : ℕ → ℕ) (job : Job) → k < length jobs → length reports ≡ length jobs
    → get_or jobs k job ≡ job → (job.program == program) ≡ false → AreCountsTo s program jobs reports k executed taken → AreCountsTo s program jobs reports (k + 1) executed taken
job_passed s program jobs reports k executed taken job few all job_is others h = record {
  executed = λ slot. let e = from (λ job r. executed_by s job.context slot r) in omega (arith, e, h.executed slot);
  taken = λ slot. let e = from (λ job r. taken_by s job.context slot r) in omega (arith, e, h.taken slot);
}
  where
    r : Report
    r = record { exit = None; output = []; executed = 0; answers = []; taken = []; peak = 0 }

    from : (count : Job → Report → ℕ) → sum_of count program (drop k jobs) (drop k reports) ≡ sum_of count program (drop (k + 1) jobs) (drop (k + 1) reports)
    from count =
        let rest = sum_of count program (drop (k + 1) jobs) (drop (k + 1) reports) in
        sum_from count program k jobs reports job r few all
        ∙ ap (λ (j : Job). cond (j.program == program) (count j (get_or reports k r)) 0 + rest) job_is
        ∙ ap (λ (b : Bool). cond b (count job (get_or reports k r)) 0 + rest) others
        ∙ (let none : 0 + rest ≡ rest = omega arith in none)

-- all are
all_counted : (s : Subject) (program : ℕ) (jobs : List Job) (reports : List Report) (k : ℕ) (t : Tally) (c : Counts) → k ≡ length jobs → length reports ≡ length jobs
    → AreCountsTo s program jobs reports k (executed_so_far s.program t) (taken_so_far t) → IsSum s t c → AreCounts s program jobs reports c
all_counted s program jobs reports k t c last all h sum = record {
  long = sum.long;
  executed = λ slot. let e = past (λ job r. executed_by s job.context slot r) in omega (arith, e, h.executed slot, sum.executed slot);
  taken = λ slot. let e = past (λ job r. taken_by s job.context slot r) in omega (arith, e, h.taken slot, sum.taken slot);
}
  where
    past : (count : Job → Report → ℕ) → sum_of count program (drop k jobs) (drop k reports) ≡ 0
    past count =
        ap (λ (n : ℕ). sum_of count program (drop n jobs) (drop n reports)) last
        ∙ ap (λ (n : ℕ). sum_of count program (drop (length jobs) jobs) (drop n reports)) (sym all)
        ∙ sum_past count program jobs reports

-- ---- a list with one element more

get_last : {X : Type 0} (xs : List X) (x : X) (k : ℕ) → length xs ≡ k → slice_get (xs ++ x ∷ []) k ≡ Some x
get_last [] x zero long = refl
get_last [] x (suc k) long = absurd (omega (arith, long))
get_last (y ∷ xs) x zero long = absurd (omega (arith, long))
get_last (y ∷ xs) x (suc k) long = get_last xs x k (omega (arith, long))

get_before : {X : Type 0} (xs : List X) (x : X) (k : ℕ) → k < length xs → slice_get (xs ++ x ∷ []) k ≡ slice_get xs k
get_before [] x k few = absurd (omega (arith, few))
get_before (y ∷ xs) x zero few = refl
get_before (y ∷ xs) x (suc k) few = get_before xs x k (omega (arith, few))

-- ---- all programs at a time

-- the counts so far are what the tallies come to
abbrev pub AreSumsTo : List Subject → List Tally → List Counts → Type 0
AreSumsTo subjects tallies cs =
    (program : ℕ) (s : Subject) (t : Tally) (c : Counts) → slice_get subjects program ≡ Some s → slice_get tallies program ≡ Some t → slice_get cs program ≡ Some c → IsSum s t c

-- the tally of a program has what the jobs before this number executed
abbrev HasCounted : List Job → List Report → (k program : ℕ) → Subject → Tally → Type 0
HasCounted jobs reports k program s t = IsTally s.program t × AreCountsTo s program jobs reports k (executed_so_far s.program t) (taken_so_far t)

-- so has that of each
pub record HaveCounted (subjects : List Subject) (tallies : List Tally) (jobs : List Job) (reports : List Report) (k : ℕ) : Type 0 where
  pub long : length tallies ≡ length subjects
  pub each : Each (HasCounted jobs reports k) subjects tallies

pub blank_counted : (subjects : List Subject) (tallies : List Tally) (jobs : List Job) (reports : List Report) → AreTallies subjects tallies → AreBlank subjects tallies
    → HaveCounted subjects tallies jobs reports 0
blank_counted subjects tallies jobs reports are blank = record {
  long = are.long;
  each = λ program s t at there. (
    are.each program s t at there,
    none_before s program jobs reports t (λ slot. (blank program s t at there slot).0) (λ slot. (blank program s t at there slot).1),
  );
}

pub tallies_counted : (subjects : List Subject) (tallies : List Tally) (jobs : List Job) (reports : List Report) (k : ℕ) → HaveCounted subjects tallies jobs reports k → AreTallies subjects tallies
tallies_counted subjects tallies jobs reports k h = record { long = h.long; each = λ program s t at there. (h.each program s t at there).0 }

-- ---- one more of each list

-- what holds of each pair holds with one pair more
pub each_more : (holds : ℕ → Subject → Tally → Type 0) (subjects : List Subject) (tallies : List Tally) (s : Subject) (t : Tally) (k : ℕ) → length tallies ≡ k → slice_get subjects k ≡ Some s
    → holds k s t → Each holds subjects tallies → Each holds subjects (tallies ++ t ∷ [])
each_more holds subjects tallies s t k long here this all program u v at there = by (cases_eq program k) where
  by : (program ≡ k) ⊎ (program ≢ k) → holds program u v
  by (inl e) =
      let same_subject : s ≡ u = let other = ap (slice_get subjects) e in cc in
      let same_tally : t ≡ v = let last = get_last tallies t k long in let other = ap (slice_get (tallies ++ t ∷ [])) e in cc in
      subst (λ (x : Tally). holds program u x) same_tally (subst (λ (y : Subject). holds program y t) same_subject (subst (λ (n : ℕ). holds n s t) (sym e) this))
  by (inr ne) =
      let inside = slice_get_within (tallies ++ t ∷ []) program v there in
      let longer = length_push tallies t in
      all program u v at (sym (get_before tallies t program (omega (arith, inside, longer, long, ne))) ∙ there)

-- the sums with those of one program more
pub sums_more : (subjects : List Subject) (tallies : List Tally) (cs : List Counts) (s : Subject) (t : Tally) (c : Counts) (k : ℕ) → length cs ≡ k → slice_get subjects k ≡ Some s
    → slice_get tallies k ≡ Some t → IsSum s t c → AreSumsTo subjects tallies cs → AreSumsTo subjects tallies (cs ++ c ∷ [])
sums_more subjects tallies cs s t c k long here there this all program u v d at held on = by (cases_eq program k) where
  by : (program ≡ k) ⊎ (program ≢ k) → IsSum u v d
  by (inl e) =
      let same_subject : s ≡ u = let other = ap (slice_get subjects) e in cc in
      let same_tally : t ≡ v = let other = ap (slice_get tallies) e in cc in
      let same_counts : c ≡ d = let last = get_last cs c k long in let other = ap (slice_get (cs ++ c ∷ [])) e in cc in
      subst (λ (x : Counts). IsSum u v x) same_counts (subst (λ (x : Tally). IsSum u x c) same_tally (subst (λ (y : Subject). IsSum y t c) same_subject this))
  by (inr ne) =
      let inside = slice_get_within (cs ++ c ∷ []) program d on in
      let longer = length_push cs c in
      all program u v d at held (sym (get_before cs c program (omega (arith, inside, longer, long, ne))) ∙ on)

-- ---- jobs

-- a job is counted in its program's
pub job_counted_in : (subjects : List Subject) (tallies : List Tally) (jobs : List Job) (reports : List Report) (k : ℕ) (job : Job) (r : Report) (s : Subject) (was is : Tally) → k < length jobs
    → length reports ≡ length jobs → slice_get jobs k ≡ Some job → get_or reports k r ≡ r → slice_get subjects job.program ≡ Some s → slice_get tallies job.program ≡ Some was → IsTally s.program is
    → IsRunCounted s job.context r (executed_so_far s.program was) (taken_so_far was) (executed_so_far s.program is) (taken_so_far is)
    → HaveCounted subjects tallies jobs reports k → HaveCounted subjects (slice_set tallies job.program is) jobs reports (k + 1)
job_counted_in subjects tallies jobs reports k job r s was is few all job_at report_is subject held tally counted h = record {
  long = length-set tallies job.program is ∙ h.long;
  each = λ program u t at there. by program u t at (get_set_cases tallies job.program program was is t held there);
}
  where
    job_is : get_or jobs k job ≡ job
    job_is = get_or_from_slice_get jobs k job job job_at

    own : HasCounted jobs reports (k + 1) job.program s is
    own = (tally, job_counted s job.program jobs reports k _ _ _ _ job r few all job_is report_is (is_same job.program job.program refl) (h.each job.program s was subject held).1 counted)

    by : (program : ℕ) (u : Subject) (t : Tally) → slice_get subjects program ≡ Some u → ((program ≡ job.program) × (is ≡ t)) ⊎ ((program ≢ job.program) × (slice_get tallies program ≡ Some t))
        → HasCounted jobs reports (k + 1) program u t
    by program u t at (inl (e, same)) =
        let same_subject : s ≡ u = let other = ap (slice_get subjects) e in cc in
        subst (λ (x : Tally). HasCounted jobs reports (k + 1) program u x) same
        (subst (λ (v : Subject). HasCounted jobs reports (k + 1) program v is) same_subject (subst (λ (n : ℕ). HasCounted jobs reports (k + 1) n s is) (sym e) own))
    by program u t at (inr (ne, there)) =
        let before = h.each program u t at there in
        (before.0, job_passed u program jobs reports k _ _ job few all job_is (is_other job.program program (λ e. ne (sym e))) before.1)

-- one of a program that isn't there is in none
pub job_passed_in : (subjects : List Subject) (tallies : List Tally) (jobs : List Job) (reports : List Report) (k : ℕ) (job : Job) → k < length jobs → length reports ≡ length jobs
    → slice_get jobs k ≡ Some job → length subjects ≤ job.program → HaveCounted subjects tallies jobs reports k → HaveCounted subjects tallies jobs reports (k + 1)
job_passed_in subjects tallies jobs reports k job few all job_at past h = record {
  long = h.long;
  each = λ program s t at there.
      let before = h.each program s t at there in
      let inside = slice_get_within subjects program s at in
      let ne : job.program ≢ program = omega (arith, inside, past) in
      (before.0, job_passed s program jobs reports k _ _ job few all (get_or_from_slice_get jobs k job job job_at) (is_other job.program program ne) before.1);
}

-- where the counts are there
pub all_ok : {E : Type 0} (subjects : List Subject) (tallies : List Tally) (jobs : List Job) (reports : List Report) (k : ℕ) (r : Result (Vec Counts Global) E) → k ≡ length jobs
    → length reports ≡ length jobs → HaveCounted subjects tallies jobs reports k → IfOk r (λ all. AreSums subjects tallies all.items) → IfOk r (λ all. AreAllCounts subjects jobs reports all.items)
all_ok subjects tallies jobs reports k (Err e) last all h sums = tt
all_ok subjects tallies jobs reports k (Ok cs) last all h sums = record {
  long = sums.long ∙ h.long;
  each = λ program s c at there. by program s c at there (slice_get_cases tallies program).1;
}
  where
    by : (program : ℕ) (s : Subject) (c : Counts) → slice_get subjects program ≡ Some s → slice_get cs.items program ≡ Some c
        → ((t : Tally) × (program < length tallies) × (slice_get tallies program ≡ Some t) × (get_or tallies program t ≡ t)) ⊎ ((length tallies ≤ program) × (slice_get tallies program ≡ None))
        → AreCounts s program jobs reports c
    by program s c at there (inl (t, few, held, same)) =
        all_counted s program jobs reports k t c last all (h.each program s t at held).1 (sums.each program s t c at held there)
    by program s c at there (inr (past, none)) = absurd (let inside = slice_get_within cs.items program c there in omega (arith, inside, past, sums.long))
