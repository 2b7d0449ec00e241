-- Jobs in a list, whose contexts lie one after another in one list of bytes.
use Rattle.std.specs.Prelude.{◌≡◌, ◌≤◌, ℕ, zero, suc, List, [], ◌∷◌, length, slice_get, Option, Some, None}
use Rattle.std.specs.List.{slice_range}
use Rattle.job_list.specs.declared.jobs.Job.{Job}
use Rattle.job_list.specs.declared.job_list.Entry.{Entry}
use Rattle.job_list.specs.declared.job_list.JobRef.{JobRef}

-- the jobs of these entries, the first of which has the bytes from `start` on
abbrev pub jobs_from : (start : ℕ) → (bytes : List ℕ) → List Entry → List Job
jobs_from start bytes [] = []
jobs_from start bytes (e ∷ rest) = record { program = e.program; context = slice_range bytes start e.end } ∷ jobs_from e.end bytes rest

-- no context ends before it begins, and the last ends where the bytes do
abbrev pub AreInOrder : (start : ℕ) → (bytes : List ℕ) → List Entry → Type 0
AreInOrder start bytes [] = start ≡ length bytes
AreInOrder start bytes (e ∷ rest) = (start ≤ e.end) × AreInOrder e.end bytes rest

-- where the context of this entry ends
abbrev pub end_of : Option Entry → ℕ
end_of None = 0
end_of (Some e) = e.end

-- where the context of this number begins: where the one before it ends, and the first at `start`
abbrev pub start_of : (start : ℕ) → List Entry → ℕ → ℕ
start_of start entries zero = start
start_of start entries (suc n) = end_of (slice_get entries n)

-- the job that is read so
abbrev pub job_of : JobRef → Job
job_of job = record { program = job.program; context = job.context.now }

-- this is the job of the number
abbrev pub IsJob : List Job → ℕ → JobRef → Type 0
IsJob jobs number job = slice_get jobs number ≡ Some (job_of job)
