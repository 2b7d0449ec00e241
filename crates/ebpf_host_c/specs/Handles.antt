-- What a call by handles does with what they hold.
use Rattle.std.specs.Prelude.{◌≡◌, ℕ, List, [], Option, None}
use Rattle.std.specs.Arc.{arc_value}
use Rattle.std.specs.Option.{MatchOption}
use Rattle.std.specs.declared.alloc.Global.{Global}
use Rattle.std.specs.declared.sync.Arc.{Arc}
use Rattle.ebpf_host.specs.declared.program.Program.{Program}
use Rattle.ebpf_host.specs.declared.stocks.Stocks.{Stocks}
use Rattle.ebpf_host.specs.Whole.{whole}
use Rattle.shared_store.specs.Tools.{ToolsView}
use Rattle.ebpf_host_c.specs.declared.reported.Reported.{Reported}
use Rattle.ebpf_host_c.specs.InTurn.{AreRunBy, AreRunOn, IsRunAnswered}
use Rattle.ebpf_host_c.specs.Reported.{IsReportWritten}

-- both handles hold a program, and it is the same
abbrev pub HoldTheSame : Option (Arc Program Global) → Option (Arc Program Global) → Type 0
HoldTheSame one other = MatchOption one ⊥ (λ p. MatchOption other ⊥ (λ o. arc_value o ≡ arc_value p))

-- a handle that held nothing holds nothing, and one that held a machine holds one: the relation is of the two
abbrev pub MachineGoes : (Stocks → Stocks → Type 0) → Option Stocks → Option Stocks → Type 0
MachineGoes R old new = MatchOption old (new ≡ None) (λ before. MatchOption new ⊥ (λ after. R before after))

-- the pages of the arena stay as many as they were
abbrev pub PagesStay : Stocks → Stocks → Type 0
PagesStay before after = after.arena.pages ≡ before.arena.pages

-- the handles held a program and a machine, the machine is still held, and what C reads is the report of the run
abbrev pub IsRunReported : Option (Arc Program Global) → Option Stocks → Option Stocks → List ℕ → ℕ → List ℕ → List ℕ → Reported → Type 0
IsRunReported program old new context limit room output filled =
    MatchOption program ⊥ (λ p. MatchOption old ⊥ (λ before. MatchOption new ⊥ (λ after.
    IsReportWritten before after (arc_value p).verified (whole (arc_value p) context) limit room output filled)))

-- the same of the first n runs of a batch, one after another: C reads the report of each, and no output
abbrev pub AreRunsReported : Option (Arc Program Global) → (old new : Option Stocks) → (contexts : List ℕ) → (limit n : ℕ) → List Reported → Type 0
AreRunsReported program old new contexts limit n reports =
    MatchOption program ⊥ (λ p. MatchOption old ⊥ (λ before. MatchOption new ⊥ (λ after.
    AreRunOn (arc_value p) contexts limit n reports (before, []) (after, []))))

-- ---- workers

-- the handles held a program and a worker, the worker is still held, was answered what the run reports, and C reads the report
abbrev pub IsRunAnsweredTo : Option (Arc Program Global) → Option ToolsView → Option ToolsView → List ℕ → ℕ → List ℕ → List ℕ → Reported → Type 0
IsRunAnsweredTo program old new context limit room output filled =
    MatchOption program ⊥ (λ p. MatchOption old ⊥ (λ before. MatchOption new ⊥ (λ after.
    IsRunAnswered before after (arc_value p).verified (whole (arc_value p) context) limit room output filled)))

-- the same of the first n runs of a batch, one after another: C reads the report of each, and no output
abbrev pub AreRunsAnswered : Option (Arc Program Global) → (old new : Option ToolsView) → (contexts : List ℕ) → (limit n : ℕ) → List Reported → Type 0
AreRunsAnswered program old new contexts limit n reports =
    MatchOption program ⊥ (λ p. MatchOption old ⊥ (λ before. MatchOption new ⊥ (λ after.
    AreRunBy (arc_value p) contexts limit n reports (before, []) (after, []))))
