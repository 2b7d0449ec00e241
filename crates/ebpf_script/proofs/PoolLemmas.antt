-- What the pool asks of jobs, a script that can be run has.
use Rattle.std.proofs.Common.{◌≡◌, ◌≤◌, ℕ, ◌==◌, Bool, true, false, not, ◌||◌, nat_lt, List, [], ◌∷◌, length, map, slice_get, get_or, All, Option}
use Rattle.std.proofs.Common.{Some, None, option_map, unwrap_or, IfSome, position, refl, sym, ap, ◌∙◌, arith}
use Rattle.std.proofs.lemmas.Bool.Decides.{nat_tests}
use Rattle.std.proofs.lemmas.List.Elements.{All-head, All-tail}
use Rattle.std.proofs.lemmas.Option.{slice_get-map, slice_get_within}
use Rattle.std.specs.List.{prefix_len}
use Rattle.ebpf_verify.specs.Subject.{Subject}
use Rattle.job_list.specs.declared.jobs.Job.{Job}
use Rattle.worker_pool.specs.declared.outcome.Host.{Host}
use Rattle.worker_pool.specs.Admission.{pool_fault, has_program, has_context}

passed : {X : Type 0} (fault : X → Bool) (xs : List X) → All (λ x. fault x ≡ false) xs → prefix_len (λ x. not (fault x)) xs ≡ length xs
passed fault [] h = refl
passed fault (x ∷ xs) h =
    let fine : fault x ≡ false = All-head (λ y. fault y ≡ false) x xs h in
    rw fine (omega (arith, passed fault xs (All-tail (λ y. fault y ≡ false) x xs h)))

-- no element is at fault
nowhere : {X : Type 0} (fault : X → Bool) (xs : List X) → All (λ x. fault x ≡ false) xs → position fault xs ≡ None
nowhere fault xs h =
    let all = passed fault xs h in
    let past : nat_lt (prefix_len (λ x. not (fault x)) xs) (length xs) ≡ false = grind (arith, nat_tests) in
    rw past refl

-- what a declared length says of a job
admitted : (programs : List Subject) (job : Job)
    → slice_get (map (λ s. s.decl.context) programs) job.program ≡ Some (length job.context)
    → (not (has_program programs job) ≡ false) × (not (has_context programs job) ≡ false)
admitted programs job h = by (slice_get programs job.program) refl (sym (slice_get-map (λ (s : Subject). s.decl.context) programs job.program) ∙ h) where
  by : (o : Option Subject) → slice_get programs job.program ≡ o → option_map (λ s. s.decl.context) o ≡ Some (length job.context)
      → (not (has_program programs job) ≡ false) × (not (has_context programs job) ≡ false)
  by None is same = absurd cc
  by (Some s) is same =
      let inside = slice_get_within programs job.program s is in
      let there : has_program programs job ≡ true = grind (arith, nat_tests) in
      let long : length job.context ≡ s.decl.context = cc in
      let fits : (length job.context == s.decl.context) ≡ true = grind (arith, nat_tests) in
      (ap not there, rw (is, fits) refl)

pub none_due : (host : Host) (workers : ℕ) (jobs : List Job) → 1 ≤ host.pages → host.pages ≤ 256 → 1 ≤ workers → workers ≤ 64 → length jobs ≤ 1048576
    → All (λ job. slice_get (map (λ s. s.decl.context) host.programs.items) job.program ≡ Some (length job.context)) jobs → pool_fault host workers jobs ≡ None
unfolding pool_fault
none_due host workers jobs some fits any enough few declared =
    let pages : (host.pages == 0 || nat_lt 256 host.pages) ≡ false = grind (arith, nat_tests) in
    let seats : (workers == 0 || nat_lt 64 workers) ≡ false = grind (arith, nat_tests) in
    let short : nat_lt 1048576 (length jobs) ≡ false = grind (arith, nat_tests) in
    let programs : position (λ job. not (has_program host.programs.items job)) jobs ≡ None =
    nowhere _ jobs (λ k d lt. (admitted host.programs.items (get_or jobs k d) (declared k d lt)).0) in
    let contexts : position (λ job. not (has_context host.programs.items job)) jobs ≡ None =
    nowhere _ jobs (λ k d lt. (admitted host.programs.items (get_or jobs k d) (declared k d lt)).1) in
    rw (pages, seats, short, programs, contexts) refl

-- the pages that a script says, or else 256
pub pages_or : (pages : Option ℕ) → IfSome pages (λ n. (1 ≤ n) × (n ≤ 256)) → (1 ≤ unwrap_or pages 256) × (unwrap_or pages 256 ≤ 256)
pages_or None h = (omega arith, omega arith)
pages_or (Some n) h = h
