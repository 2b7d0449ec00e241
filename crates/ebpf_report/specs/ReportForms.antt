-- The reports of jobs in a form, one after another.
use Rattle.std.specs.Prelude.{ℕ, ◌+◌, ◌++◌, List, [], ◌∷◌}
use Rattle.ebpf_machine.specs.declared.report.Report.{Report}

-- the texts of the reports of the jobs from this number on, in order
abbrev pub each_from : (ℕ → Report → List ℕ) → ℕ → List Report → List ℕ
each_from text job [] = []
each_from text job (r ∷ reports) = text job r ++ each_from text (job + 1) reports
