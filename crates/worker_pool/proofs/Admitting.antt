-- A job whose context fits has its program.
use Rattle.std.proofs.Common.{◌≡◌, ◌<◌, ℕ, zero, suc, Bool, true, false, not, List, [], ◌∷◌, length, slice_get, None, refl, arith}
use Rattle.std.proofs.Math.ListN.{get_or}
use Rattle.std.proofs.lemmas.Bool.{lt-ltb}
use Rattle.std.proofs.lemmas.List.Sums.{fails_before_first}
use Rattle.ebpf_verify.specs.Subject.{Subject}
use Rattle.job_list.specs.declared.jobs.Job.{Job}
use Rattle.worker_pool.specs.Admission.{has_context, has_program, is_declared, without_context, without_program}
use Rattle.worker_pool.proofs.Searching.{none_passes, to_the_end}

inside : (context : List ℕ) (programs : List Subject) (k : ℕ) → is_declared context (slice_get programs k) ≡ true → k < length programs
inside context [] k h = absurd cc
inside context (p ∷ programs) zero h = omega arith
inside context (p ∷ programs) (suc k) h = omega (arith, inside context programs k h)

fits : (b : Bool) → not b ≡ false → b ≡ true
fits true h = refl
fits false h = absurd cc

has_both : (programs : List Subject) (job : Job) → not (has_context programs job) ≡ false → not (has_program programs job) ≡ false
has_both programs job h =
    rw (lt-ltb job.program (length programs) (inside job.context programs job.program (fits (has_context programs job) h))) refl

-- so where no job is without its context, none is without its program
pub none_without : (programs : List Subject) (jobs : List Job) → without_context programs jobs ≡ None → without_program programs jobs ≡ None
none_without programs jobs none =
    let d : Job = record { program = 0; context = [] } in
    let p : Job → Bool = λ job. not (has_context programs job) in
    none_passes (λ (job : Job). not (has_program programs job)) jobs d
    (λ k within. has_both programs (get_or jobs k d) (fails_before_first p jobs k d (omega (arith, within, to_the_end p jobs none))))
