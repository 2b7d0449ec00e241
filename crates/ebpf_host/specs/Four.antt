-- Four runs of one program, in turn over a store.
use Rattle.std.specs.Prelude.{◌≡◌, ◌+◌, ℕ, List}
use Rattle.ebpf_verify.specs.Subject.{Subject}
use Rattle.ebpf_machine.specs.declared.four_runs.FourRuns.{FourRuns}
use Rattle.ebpf_machine.specs.declared.report.Report.{Report}
use Rattle.ebpf_machine.specs.Store.{Store}
use Rattle.ebpf_fours.specs.Beginning.{IsAtStart}
use Rattle.ebpf_host.specs.declared.four_within.FourEnded.{FourEnded}
use Rattle.ebpf_host.specs.declared.program.Program.{Program}
use Rattle.ebpf_host.specs.Contexts.{context_at}
use Rattle.ebpf_host.specs.Finding.{IsFound}
use Rattle.ebpf_host.specs.Leaving.{IsLeft}
use Rattle.ebpf_host.specs.Reports.{IsReportWithin}
use Rattle.ebpf_host.specs.Whole.{whole}

-- a run over a store within a limit, from its first instruction to its end
pub record IsEndedWithin {S H : Type 0} (o : Store S H) (limit : ℕ) (s : Subject) (context : List ℕ) (r : Report) (old new : S) : Type 0 where
  pub report : IsReportWithin s context limit r
  -- the store went by the report's answers
  pub goes : o.goes old r.answers new
  -- of each kind as many are out as before
  pub outs : (k : ℕ) → o.outs new k ≡ o.outs old k
  pub found : IsFound o old s context r
  pub shelves : IsLeft o old new s context r

-- four runs that are at their first instruction, each on the next of these contexts from that with a number on
pub record HaveStarted {H : Type 0} (p : Program) (contexts : List ℕ) (number : ℕ) (f : FourRuns H) : Type 0 where
  pub one : IsAtStart p.verified (whole p (context_at p number contexts)) f.one
  pub two : IsAtStart p.verified (whole p (context_at p (number + 1) contexts)) f.two
  pub three : IsAtStart p.verified (whole p (context_at p (number + 2) contexts)) f.three
  pub four : IsAtStart p.verified (whole p (context_at p (number + 3) contexts)) f.four

-- four runs on these, each from where the one before it left the store
pub record AreFourRun {S H : Type 0} (o : Store S H) (p : Program) (contexts : List ℕ) (number limit : ℕ) (e : FourEnded H) (old new : S) : Type 0 where
  pub second : S
  pub third : S
  pub fourth : S
  pub one : IsEndedWithin o limit p.verified (whole p (context_at p number contexts)) e.one old second
  pub two : IsEndedWithin o limit p.verified (whole p (context_at p (number + 1) contexts)) e.two second third
  pub three : IsEndedWithin o limit p.verified (whole p (context_at p (number + 2) contexts)) e.three third fourth
  pub four : IsEndedWithin o limit p.verified (whole p (context_at p (number + 3) contexts)) e.four fourth new
