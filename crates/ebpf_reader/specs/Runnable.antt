-- What the jobs of a script need in order to be run: every script without a fault has it.
use Rattle.std.specs.Prelude.{◌≡◌, ◌≤◌, List, map, length, slice_get, All, Some, IfSome}
use Rattle.vmem_arena.specs.declared.arena.TheConstants.{MAX_PAGES}
use Rattle.job_list.specs.declared.jobs.Job.{Job}
use Rattle.ebpf_reader.specs.ParsedScript.{Named, ParsedScript}

-- each job's program is there, and its context is as long as the program declares
abbrev pub AreDeclared : List Named → List Job → Type 0
AreDeclared programs jobs = All (λ job. slice_get (map (λ p. p.context) programs) job.program ≡ Some (length job.context)) jobs

-- the pages are those of an arena, where a line says how many, and the jobs are no more than a text has lines
pub record IsRunnable (parsed : ParsedScript) : Type 0 where
  pub pages : IfSome parsed.pages (λ n. (1 ≤ n) × (n ≤ MAX_PAGES))
  pub declared : AreDeclared parsed.programs parsed.jobs
  pub few : length parsed.jobs ≤ 1048576
