-- Runs one after another: one more of them, and what is said of them by another view of the states.
use Rattle.std.proofs.Common.{◌≡◌, ◌<◌, ◌≤◌, ◌+◌, ◌*◌, ℕ, zero, suc, List, Option, Some, None, length, refl, sym, ap, ◌∙◌, subst, arith, slice_get, slice_set}
use native.Mathlib.Numerals.{unary_clauses}
use Rattle.std.specs.Option.{MatchOption}
use Rattle.std.proofs.Math.Nat.{mul-le-mul_right}
use Rattle.std.proofs.lemmas.List.{length-set}
use Rattle.std.proofs.lemmas.Option.{slice_get-get_or}
use Rattle.ebpf_machine.specs.declared.report.Reply.{Reply}
use Rattle.ebpf_machine.specs.declared.report.Report.{Report}
use Rattle.ebpf_machine.specs.Store.{Store, Shelved}
use Rattle.ebpf_machine.proofs.Lists.ListLemmas.{get_set_other, get_set_same}
use Rattle.ebpf_host.specs.declared.program.Program.{Program}
use Rattle.ebpf_host.specs.declared.stocks.Stocks.{Stocks}
use Rattle.ebpf_host.specs.Stocks.{standing_on}
use Rattle.ebpf_host.specs.Contexts.{context_at}
use Rattle.ebpf_host.specs.Four.{IsEndedWithin}
use Rattle.ebpf_host.specs.Whole.{whole}
use Rattle.ebpf_host.proofs.Finding.{found_on_machine}
use Rattle.ebpf_host.proofs.Leaving.{on_machine}
use Rattle.ebpf_host_c.specs.declared.reported.Reported.{Reported}
use Rattle.ebpf_host_c.specs.Reported.{IsReportWritten, IsWrittenAt}
use Rattle.ebpf_host_c.specs.InTurn.{AreRun, AreRunBy, AreRunOn, IsRunAnswered, IsRunAt, IsRunBy, IsRunOn, IsRunOver, RunsTo}
use Rattle.shared_store.specs.Going.{GoesBy}
use Rattle.shared_store.specs.Tools.{ToolsView}

-- what holds of each run, as it is seen, holds of runs one after another
pub runs_seen : {S T : Type 0} (run : ℕ → S → S → Type 0) (as_seen : ℕ → T → T → Type 0) (seen : S → T) (n : ℕ)
    → ((k : ℕ) (a b : S) → k < n → run k a b → as_seen k (seen a) (seen b)) → (s t : S) → RunsTo run n s t → RunsTo as_seen n (seen s) (seen t)
unfolding RunsTo
runs_seen run as_seen seen zero each s t ran = ap seen ran
runs_seen run as_seen seen (suc n) each s t ran =
    (seen ran.0, runs_seen run as_seen seen n (λ k a b below. each k a b (omega (arith, below))) s ran.0 ran.1, each n ran.0 t (omega arith) ran.2)

pub none_run : {S : Type 0} (run : ℕ → S → S → Type 0) (s : S) → RunsTo run 0 s s
unfolding RunsTo
none_run run s = refl

more_run : {S : Type 0} (run : ℕ → S → S → Type 0) (n : ℕ) (s between t : S) → RunsTo run n s between → run n between t → RunsTo run (n + 1) s t
unfolding RunsTo
more_run run n s between t ran last = simp unary_clauses (between, ran, last)

-- one run more, whose report is written over what was there
pub next_run : {S H : Type 0} (o : Store S H) (p : Program) (contexts : List ℕ) (limit n : ℕ) (reports : List Reported) (filled : Reported)
    → (before between after : S × List ℕ) → n < length reports → AreRun o p contexts limit n reports before between
    → (context : List ℕ) → context ≡ context_at p n contexts → IsRunOver o between.0 after.0 p.verified (whole p context) limit between.1 after.1 filled
    → AreRun o p contexts limit (n + 1) (slice_set reports n filled) before after
next_run {S} {H} o p contexts limit n reports filled before between after there ran context same last =
    let written = get_set_same reports n _ filled (slice_get-get_or reports n filled there) in
    more_run (IsRunAt o p contexts limit (slice_set reports n filled)) n before between after
    (runs_seen (IsRunAt o p contexts limit reports) (IsRunAt o p contexts limit (slice_set reports n filled)) (λ s. s) n
    (λ k a b below run. rw (get_set_other reports n k filled (omega (arith, below))) run) before between ran)
    (rw (written, ← same) last)

-- one that ended, and whose report is written
pub next_ended : {S H : Type 0} (o : Store S H) (p : Program) (contexts : List ℕ) (limit n more : ℕ) (reports now : List Reported) (report : Report)
    (before between after : S × List ℕ) → n < length reports → more ≡ n + 1 → AreRun o p contexts limit n reports before between
    → IsEndedWithin o limit p.verified (whole p (context_at p n contexts)) report between.0 after.0
    → IsWrittenAt n report between.1 after.1 reports now → AreRun o p contexts limit more now before after
next_ended o p contexts limit n more reports now report before between after there one ran ended w =
    subst (λ (m : ℕ). AreRun o p contexts limit m now before after) (sym one)
    (subst (λ (xs : List Reported). AreRun o p contexts limit (n + 1) xs before after) (sym w.is)
    (next_run o p contexts limit n reports w.filled before between after there ran (context_at p n contexts) refl
    (record { report = report; is = ended.report; goes = ended.goes; found = ended.found; left = ended.shelves; written = w.written })))

-- there is a context for each report
pub context_there : (count number bytes there : ℕ) → number ≤ count → there ≡ count * bytes → number * bytes ≤ there
context_there count number bytes there few is = omega (arith, mul-le-mul_right bytes few, is)

-- as many reports are there as before, and the others are as they were
pub length_written : {n : ℕ} {report : Report} {room output : List ℕ} {reports now : List Reported} → IsWrittenAt n report room output reports now
    → length now ≡ length reports
length_written {n} {reports = reports} w = ap length w.is ∙ length-set reports n w.filled

pub other_written : {n : ℕ} {report : Report} {room output : List ℕ} {reports now : List Reported} (k : ℕ) → n < k
    → IsWrittenAt n report room output reports now → slice_get now k ≡ slice_get reports k
other_written {n} {reports = reports} k past w =
    ap (λ (xs : List Reported). slice_get xs k) w.is ∙ get_set_other reports n k w.filled (omega (arith, past))

-- ---- on a machine

-- what each run leaves as it is, all of them do
kept : {S X : Type 0} (of : S → X) (n : ℕ) (s t : S) → RunsTo (λ k a b. of b ≡ of a) n s t → of t ≡ of s
unfolding RunsTo
kept of zero s t ran = ap of ran
kept of (suc n) s t ran = ran.2 ∙ kept of n s ran.0 ran.1

-- of a store whose shelves are those of a machine
pub record IsOnMachine {H : Type 0} (o : Store Stocks H) : Type 0 where
  pub stands : (s : Stocks) (shelf : ℕ) (what : Option Shelved) → what ≡ standing_on s shelf → o.stand s shelf what
  pub stood : (s : Stocks) (shelf : ℕ) (what : Option Shelved) → o.stand s shelf what → what ≡ standing_on s shelf
  pub pages : (s t : Stocks) (told : List Reply) → o.goes s told t → t.arena.pages ≡ s.arena.pages

module _ {H : Type 0} (o : Store Stocks H) (is : IsOnMachine o) (p : Program) (contexts : List ℕ) (limit : ℕ) (reports : List Reported) where
  run_on : (n : ℕ) (a b : Stocks × List ℕ) → IsRunAt o p contexts limit reports n a b → IsRunOn p contexts limit reports n a b
  run_on n a b run = by (slice_get reports n) run where
    by : (found : Option Reported) → MatchOption found ⊥ (λ filled. IsRunOver o a.0 b.0 p.verified (whole p (context_at p n contexts)) limit a.1 b.1 filled)
        → MatchOption found ⊥ (λ filled. IsReportWritten a.0 b.0 p.verified (whole p (context_at p n contexts)) limit a.1 b.1 filled)
    by None h = absurd h
    by (Some filled) h = record {
      report = h.report;
      is = h.is;
      found = found_on_machine a.0 p.verified _ h.report (λ shelf what e. h.found shelf what (is.stands a.0 shelf what e));
      left = on_machine a.0 b.0 p.verified _ h.report (λ shelf what e.
          let now = h.left shelf what (is.stands a.0 shelf what e) in (now.0, is.stood b.0 shelf now.0 now.1, now.2));
      written = h.written;
    }

  pages_at : (n : ℕ) (a b : Stocks × List ℕ) → IsRunAt o p contexts limit reports n a b → b.0.arena.pages ≡ a.0.arena.pages
  pages_at n a b run = by (slice_get reports n) run where
    by : (found : Option Reported) → MatchOption found ⊥ (λ filled. IsRunOver o a.0 b.0 p.verified (whole p (context_at p n contexts)) limit a.1 b.1 filled)
        → b.0.arena.pages ≡ a.0.arena.pages
    by None h = absurd h
    by (Some filled) h = is.pages a.0 b.0 h.report.answers h.goes

  pub runs_on : (n : ℕ) (s t : Stocks × List ℕ) → AreRun o p contexts limit n reports s t → AreRunOn p contexts limit n reports s t
  runs_on n s t ran = runs_seen (IsRunAt o p contexts limit reports) (IsRunOn p contexts limit reports) (λ s. s) n (λ k a b below. run_on k a b) s t ran

  pub pages_stay : (n : ℕ) (s t : Stocks × List ℕ) → AreRun o p contexts limit n reports s t → t.0.arena.pages ≡ s.0.arena.pages
  pages_stay n s t ran = kept (λ (s : Stocks × List ℕ). s.0.arena.pages) n s t
      (runs_seen (IsRunAt o p contexts limit reports) (λ k a b. b.0.arena.pages ≡ a.0.arena.pages) (λ s. s) n (λ k a b below. pages_at k a b) s t ran)

-- ---- by a worker

-- over a store that keeps a worker's tools, and goes on by what they were answered
module _ {S H : Type 0} (o : Store S H) (tools : S → ToolsView) (answered : (s t : S) (told : List Reply) → o.goes s told t → GoesBy (tools s) told (tools t)) where
  run_by : (p : Program) (contexts : List ℕ) (limit : ℕ) (reports : List Reported) (n : ℕ) (a b : S × List ℕ)
      → IsRunAt o p contexts limit reports n a b → IsRunBy p contexts limit reports n (tools a.0, a.1) (tools b.0, b.1)
  run_by p contexts limit reports n a b run = by (slice_get reports n) run where
    by : (found : Option Reported) → MatchOption found ⊥ (λ filled. IsRunOver o a.0 b.0 p.verified (whole p (context_at p n contexts)) limit a.1 b.1 filled)
        → MatchOption found ⊥ (λ filled. IsRunAnswered (tools a.0) (tools b.0) p.verified (whole p (context_at p n contexts)) limit a.1 b.1 filled)
    by None h = absurd h
    by (Some filled) h = record { report = h.report; is = h.is; goes = answered a.0 b.0 h.report.answers h.goes; written = h.written }

  pub runs_by : (p : Program) (contexts : List ℕ) (limit : ℕ) (reports : List Reported) (n : ℕ) (s t : S × List ℕ)
      → AreRun o p contexts limit n reports s t → AreRunBy p contexts limit n reports (tools s.0, s.1) (tools t.0, t.1)
  runs_by p contexts limit reports n s t ran = runs_seen (IsRunAt o p contexts limit reports) (IsRunBy p contexts limit reports) (λ s. (tools s.0, s.1)) n
      (λ k a b below. run_by p contexts limit reports k a b) s t ran
