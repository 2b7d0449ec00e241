-- A trace, and the totals of a file, as contracts see them.
use Rattle.std.specs.Prelude.{◌≡◌, ℕ, ◌+◌, List, Option, get_or}
use Rattle.ebpf_insn.specs.declared.insn.Insn.{Insn}
use Rattle.ebpf_insn.specs.Program.{insn_at}
use Rattle.ebpf_lines.specs.declared.source.Source.{Source}
use Rattle.ebpf_lines.specs.declared.tracefile.Totals.{Totals}
use Rattle.ebpf_lines.specs.declared.tracefile.Traced.{Traced}
use Rattle.ebpf_lines.specs.Tracefile.{Trace, is_branch}

abbrev pub trace_of : Traced → Trace
trace_of t = record {
  function = t.function.bytes.now;
  lines = t.lines;
  holding = t.holding.now;
  executed = λ k. get_or t.executed.now k 0;
  taken = λ k. get_or t.taken.now k 0;
  branch = λ k. is_branch (insn_at t.program.now k);
}

-- of a program that has lines, with its counts
abbrev pub trace_by : Source → (executed taken : ℕ → ℕ) → List (Option Insn) → Trace
trace_by s executed taken p = record {
  function = s.function.bytes.now;
  lines = s.lines;
  holding = s.holding.items;
  executed = executed;
  taken = taken;
  branch = λ k. is_branch (insn_at p k);
}

-- that many ways of branches more
pub record WithWays (more hit : ℕ) (old new : Totals) : Type 0 where
  pub lines_same : new.lines ≡ old.lines
  pub hit_same : new.lines_hit ≡ old.lines_hit
  pub ways_are : new.ways ≡ old.ways + more
  pub ways_hit_are : new.ways_hit ≡ old.ways_hit + hit

-- one line more, with its ways
pub record WithLine (reached more hit : ℕ) (old new : Totals) : Type 0 where
  pub lines_are : new.lines ≡ old.lines + 1
  pub hit_are : new.lines_hit ≡ old.lines_hit + reached
  pub ways_are : new.ways ≡ old.ways + more
  pub ways_hit_are : new.ways_hit ≡ old.ways_hit + hit

-- these are the totals: of lines, of those that jobs came to, and the same of ways of branches
pub record AreTotals (found reached more hit : ℕ) (t : Totals) : Type 0 where
  pub lines_are : t.lines ≡ found
  pub hit_are : t.lines_hit ≡ reached
  pub ways_are : t.ways ≡ more
  pub ways_hit_are : t.ways_hit ≡ hit
