-- What is asked of jobs before any worker is started.
use Rattle.std.specs.Prelude.{ℕ, Bool, false, not, ◌==◌, ◌||◌, nat_lt, if◌then◌else◌, List, length, position, Option, Some, None, slice_get}
use Rattle.ebpf_verify.specs.Subject.{Subject}
use Rattle.job_list.specs.declared.jobs.Job.{Job}
use Rattle.worker_pool.specs.declared.outcome.Host.{Host}
use Rattle.vmem_arena.specs.declared.arena.TheConstants.{MAX_PAGES}
use Rattle.worker_pool.specs.declared.admission.PoolFault.{PoolFault}
use Rattle.worker_pool.specs.declared.admission.PoolFault.TheVariants.{Pages, Workers, Jobs, Program, Context}
use Rattle.worker_pool.specs.declared.outcome.TheConstants.{MAX_WORKERS, MAX_JOBS}

-- the job's program is there
abbrev pub has_program : List Subject → Job → Bool
has_program programs job = nat_lt job.program (length programs)

-- the context has the length that the program declares
abbrev pub is_declared : List ℕ → Option Subject → Bool
is_declared context None = false
is_declared context (Some s) = length context == s.decl.context

abbrev pub has_context : List Subject → Job → Bool
has_context programs job = is_declared job.context (slice_get programs job.program)

-- the lowest job without its program, and the lowest without its context
abbrev pub without_program : List Subject → List Job → Option ℕ
without_program programs jobs = position (λ job. not (has_program programs job)) jobs

abbrev pub without_context : List Subject → List Job → Option ℕ
without_context programs jobs = position (λ job. not (has_context programs job)) jobs

-- a job without its program goes before one without its context
abbrev pub context_fault : Option ℕ → Option PoolFault
context_fault None = None
context_fault (Some job) = Some (Context job)

abbrev pub job_fault : (programless contextless : Option ℕ) → Option PoolFault
job_fault None contextless = context_fault contextless
job_fault (Some job) contextless = Some (Program job)

-- why no worker is started, if there is a cause
unfoldable pub pool_fault : Host → ℕ → List Job → Option PoolFault
pool_fault host workers jobs =
    if host.pages == 0 || nat_lt MAX_PAGES host.pages then Some Pages else
    if workers == 0 || nat_lt MAX_WORKERS workers then Some Workers else
    if nat_lt MAX_JOBS (length jobs) then Some Jobs else
    job_fault (without_program host.programs.items jobs) (without_context host.programs.items jobs)
