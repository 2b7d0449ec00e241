-- The reports of a worker, each with the number of its job. It keeps a list of reports for each bundle that it drew.
use Rattle.std.specs.Prelude.{◌≡◌, ◌-◌, ◌+◌, ◌*◌, ◌<◌, ◌==◌, if◌then◌else◌, ℕ, min, List, [], ◌∷◌, length, sum_by}
use Rattle.std.specs.Int.{div_ceil}
use Rattle.std.specs.List.{flat_map}
use Rattle.ebpf_machine.specs.declared.report.Report.{Report}
use Rattle.worker_pool.specs.declared.answered.Answered.{Answered}
use Rattle.worker_pool.specs.declared.answered.Bundle.{Bundle}

-- the report of the job of a number
pub record Numbered : Type 0 where
  pub job : ℕ
  pub report : Report

-- reports with numbers, from this one on
abbrev pub numbered : ℕ → List Report → List Numbered
numbered job [] = []
numbered job (report ∷ reports) = record { job = job; report = report } ∷ numbered (job + 1) reports

-- Of bundles of a size, bundle b has the jobs from b times the size up to the next bundle's first, as far as there are jobs.

-- how many bundles n jobs make, and how many of the jobs are in one
abbrev pub bundles_in : (size count : ℕ) → ℕ
bundles_in size count = div_ceil count size

abbrev pub many_in : (size count bundle : ℕ) → ℕ
many_in size count bundle = min size (count - bundle * size)

-- there is a report of each of its jobs
pub record IsWhole (size count : ℕ) (b : Bundle) : Type 0 where
  pub inside : b.number < bundles_in size count
  pub all : length b.reports.items ≡ many_in size count b.number

abbrev pub told_of : (size : ℕ) → Bundle → List Numbered
told_of size b = numbered (b.number * size) b.reports.items

abbrev pub told_by : (size : ℕ) → Answered → List Numbered
told_by size a = flat_map (told_of size) a.bundles.items

-- how many of the bundles have this number
abbrev pub times_of : ℕ → List Bundle → ℕ
times_of number bundles = sum_by (λ b. if b.number == number then 1 else 0) bundles

-- no bundle
abbrev pub IsBlank : Answered → Type 0
IsBlank a = a.bundles.items ≡ []
