-- Runs of one program in turn: each is on the next of the contexts, which are one after another.
use Rattle.std.specs.Prelude.{◌≡◌, ◌*◌, ℕ, zero, suc, List, length, slice_get}
use Rattle.std.specs.Option.{MatchOption}
use Rattle.ebpf_verify.specs.Subject.{Subject}
use Rattle.ebpf_machine.specs.declared.report.Report.{Report}
use Rattle.ebpf_machine.specs.Store.{Store}
use Rattle.ebpf_host.specs.declared.program.Program.{Program}
use Rattle.ebpf_host.specs.declared.stocks.Stocks.{Stocks}
use Rattle.ebpf_host.specs.Contexts.{given_bytes, context_at}
use Rattle.ebpf_host.specs.Finding.{IsFound}
use Rattle.ebpf_host.specs.Leaving.{IsLeft}
use Rattle.ebpf_host.specs.Reports.{IsReportWithin}
use Rattle.ebpf_host.specs.Whole.{whole}
use Rattle.shared_store.specs.Going.{GoesBy}
use Rattle.shared_store.specs.Tools.{ToolsView}
use Rattle.ebpf_host_c.specs.declared.reported.Reported.{Reported}
use Rattle.ebpf_host_c.specs.Reported.{IsReportWritten, IsWritten}

-- these bytes are that many contexts of a program
abbrev pub AreContexts : Program → (count : ℕ) → (contexts : List ℕ) → Type 0
AreContexts p count contexts = length contexts ≡ count * given_bytes p

-- the first n runs go from one state to another: each goes on from where the one before it ended
unfoldable pub RunsTo : {S : Type 0} → (run : (number : ℕ) → S → S → Type 0) → (n : ℕ) → (old new : S) → Type 0
RunsTo run zero old new = new ≡ old
RunsTo {S} run (suc n) old new = (between : S) × RunsTo run n old between × run n between new

-- a run over a store, of which C is given the report
pub record IsRunOver {S H : Type 0} (o : Store S H) (old new : S) (s : Subject) (context : List ℕ) (limit : ℕ) (room output : List ℕ) (filled : Reported) : Type 0 where
  pub report : Report
  pub is : IsReportWithin s context limit report
  pub goes : o.goes old report.answers new
  pub found : IsFound o old s context report
  pub left : IsLeft o old new s context report
  pub written : IsWritten report room output filled

-- The run with this number is on the context with that number, and C is given its report as the one with that number. A state is that of the
-- store, and the output as the runs so far left it.
abbrev pub IsRunAt : {S H : Type 0} → Store S H → Program → (contexts : List ℕ) → (limit : ℕ) → List Reported → (number : ℕ) → (before after : S × List ℕ) → Type 0
IsRunAt o p contexts limit reports number before after = MatchOption (slice_get reports number) ⊥ (λ filled.
    IsRunOver o before.0 after.0 p.verified (whole p (context_at p number contexts)) limit before.1 after.1 filled)

-- the first n runs over a store
abbrev pub AreRun : {S H : Type 0} → Store S H → Program → (contexts : List ℕ) → (limit n : ℕ) → List Reported → (before after : S × List ℕ) → Type 0
AreRun o p contexts limit n reports before after = RunsTo (IsRunAt o p contexts limit reports) n before after

-- where the first n were run, the first m are then
abbrev pub AreRunFrom : {S H : Type 0} → Store S H → Program → (contexts : List ℕ) → (limit n m : ℕ) → (old new : List Reported) → (before after : S × List ℕ) → Type 0
AreRunFrom {S} o p contexts limit n m old new before after =
    (first : S × List ℕ) → AreRun o p contexts limit n old first before → AreRun o p contexts limit m new first after

-- ---- on a machine

abbrev pub IsRunOn : Program → (contexts : List ℕ) → (limit : ℕ) → List Reported → (number : ℕ) → (before after : Stocks × List ℕ) → Type 0
IsRunOn p contexts limit reports number before after = MatchOption (slice_get reports number) ⊥ (λ filled.
    IsReportWritten before.0 after.0 p.verified (whole p (context_at p number contexts)) limit before.1 after.1 filled)

-- the first n runs on a machine
abbrev pub AreRunOn : Program → (contexts : List ℕ) → (limit n : ℕ) → List Reported → (before after : Stocks × List ℕ) → Type 0
AreRunOn p contexts limit n reports before after = RunsTo (IsRunOn p contexts limit reports) n before after

-- ---- by a worker

-- a run by a worker, of which C is given the report: it was answered what the report says
pub record IsRunAnswered (old new : ToolsView) (s : Subject) (context : List ℕ) (limit : ℕ) (room output : List ℕ) (filled : Reported) : Type 0 where
  pub report : Report
  pub is : IsReportWithin s context limit report
  pub goes : GoesBy old report.answers new
  pub written : IsWritten report room output filled

abbrev pub IsRunBy : Program → (contexts : List ℕ) → (limit : ℕ) → List Reported → (number : ℕ) → (before after : ToolsView × List ℕ) → Type 0
IsRunBy p contexts limit reports number before after = MatchOption (slice_get reports number) ⊥ (λ filled.
    IsRunAnswered before.0 after.0 p.verified (whole p (context_at p number contexts)) limit before.1 after.1 filled)

-- the first n runs by a worker
abbrev pub AreRunBy : Program → (contexts : List ℕ) → (limit n : ℕ) → List Reported → (before after : ToolsView × List ℕ) → Type 0
AreRunBy p contexts limit n reports before after = RunsTo (IsRunBy p contexts limit reports) n before after
