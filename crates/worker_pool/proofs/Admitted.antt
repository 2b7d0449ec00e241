-- Where no fault is found, the jobs can be done.
use Rattle.std.proofs.Common.{◌≡◌, ◌≤◌, ◌<◌, ◌+◌, ◌==◌, ◌||◌, not, nat_lt, if◌then◌else◌, cond, ℕ, zero, suc, Bool, true, false, Option, Some}
use Rattle.std.proofs.Common.{None, All, List, [], ◌∷◌, length, position, slice_index_or, refl, sym, ap, ◌∙◌, arith}
use Rattle.std.specs.List.{position_or_len}
use Rattle.std.proofs.lemmas.Bool.Decides.{nat_tests}
use Rattle.ebpf_verify.specs.Subject.{Subject}
use Rattle.job_list.specs.declared.jobs.Job.{Job}
use Rattle.worker_pool.specs.declared.outcome.Host.{Host}
use Rattle.worker_pool.specs.declared.outcome.TheConstants.{MAX_WORKERS, MAX_JOBS}
use Rattle.worker_pool.specs.declared.admission.PoolFault.TheVariants.{Pages, Workers, Jobs}
use Rattle.worker_pool.specs.Admission.{pool_fault, job_fault, has_program, has_context, is_declared, without_program, without_context}
use Rattle.worker_pool.specs.Working.{CanRun}

-- jobs and workers that have no fault
pub record IsAdmitted (programs : List Subject) (workers : ℕ) (jobs : List Job) : Type 0 where
  pub some : 0 < workers
  pub few : workers ≤ 64
  pub few_jobs : length jobs ≤ MAX_JOBS
  pub can : All (CanRun programs) jobs

unless : {X : Type 0} (t : Bool) (x : X) (rest : Option X) → (if t then Some x else rest) ≡ None → (t ≡ false) × (rest ≡ None)
unless true x rest e = absurd (cc)
unless false x rest e = (refl, e)

none_of : (program context : Option ℕ) → job_fault program context ≡ None → (program ≡ None) × (context ≡ None)
none_of None None e = (refl, refl)
none_of None (Some c) e = absurd (cc)
none_of (Some p) context e = absurd (cc)

-- where no position is found, no element passes
past_all : {X : Type 0} (p : X → Bool) (xs : List X) → position p xs ≡ None → length xs ≤ position_or_len p xs
past_all p xs e = by (nat_lt (position_or_len p xs) (length xs)) refl where
  by : (t : Bool) → nat_lt (position_or_len p xs) (length xs) ≡ t → length xs ≤ position_or_len p xs
  by true is = let found : position p xs ≡ Some (position_or_len p xs) = ap (λ (t : Bool). cond t (Some (position_or_len p xs)) None) is in absurd (cc)
  by false is = grind (arith, nat_tests)

none_passes : {X : Type 0} (p : X → Bool) (xs : List X) → length xs ≤ position_or_len p xs → All (λ x. p x ≡ false) xs
none_passes p [] h k d l = absurd (omega (arith, l))
none_passes p (x ∷ xs) h zero d l = by (p x) refl where
  by : (t : Bool) → p x ≡ t → p x ≡ false
  by false e = e
  by true e = let here : position_or_len p (x ∷ xs) ≡ 0 = ap (λ (t : Bool). cond (not t) (1 + position_or_len p xs) 0) e in absurd (omega (arith, h, here))
none_passes p (x ∷ xs) h (suc k) d l = none_passes p xs (by (p x) refl) k d (omega (arith, l)) where
  by : (t : Bool) → p x ≡ t → length xs ≤ position_or_len p xs
  by false e = let here : position_or_len p (x ∷ xs) ≡ 1 + position_or_len p xs = ap (λ (t : Bool). cond (not t) (1 + position_or_len p xs) 0) e in omega (arith, h, here)
  by true e = let here : position_or_len p (x ∷ xs) ≡ 0 = ap (λ (t : Bool). cond (not t) (1 + position_or_len p xs) 0) e in absurd (omega (arith, h, here))

is_true : (b : Bool) → not b ≡ false → b ≡ true
is_true true e = refl
is_true false e = absurd (cc)

can_run : (programs : List Subject) (job : Job) → has_program programs job ≡ true → has_context programs job ≡ true → CanRun programs job
can_run programs job program context = record {
  inside = grind (arith, nat_tests);
  fits = λ s at. length_is s (ap (is_declared job.context) (sym at) ∙ context);
} where
  length_is : (s : Subject) → (length job.context == s.decl.context) ≡ true → length job.context ≡ s.decl.context
  length_is s e = grind (arith, nat_tests)

some_of : (workers : ℕ) → (workers == 0 || nat_lt MAX_WORKERS workers) ≡ false → 0 < workers
some_of workers e = grind (arith, nat_tests)

few_of : (workers : ℕ) → (workers == 0 || nat_lt MAX_WORKERS workers) ≡ false → workers ≤ 64
few_of workers e = grind (arith, nat_tests)

at_most_of : (n most : ℕ) → nat_lt most n ≡ false → n ≤ most
at_most_of n most e = grind (arith, nat_tests)

pub admitted : (host : Host) (workers : ℕ) (jobs : List Job) → pool_fault host workers jobs ≡ None → IsAdmitted host.programs.items workers jobs
unfolding pool_fault
admitted host workers jobs e =
    let pages = unless _ Pages _ e in
    let team = unless _ Workers _ pages.1 in
    let list = unless _ Jobs _ team.1 in
    let both = none_of (without_program host.programs.items jobs) (without_context host.programs.items jobs) list.1 in
    let programs =
    none_passes (λ job. not (has_program host.programs.items job)) jobs (past_all (λ job. not (has_program host.programs.items job)) jobs both.0) in
    let contexts =
    none_passes (λ job. not (has_context host.programs.items job)) jobs (past_all (λ job. not (has_context host.programs.items job)) jobs both.1) in
    let team_is = team.0 in
    let list_is = list.0 in record {
      some = some_of workers team_is;
      few = few_of workers team_is;
      few_jobs = at_most_of (length jobs) MAX_JOBS list_is;
      can = λ i d l. can_run host.programs.items (slice_index_or jobs i d) (is_true _ (programs i d l)) (is_true _ (contexts i d l));
    }
