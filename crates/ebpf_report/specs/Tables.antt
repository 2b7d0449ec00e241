-- The table of what the caches and the workers did, in a format.
use Rattle.std.specs.Prelude.{ℕ, List, [], Option, Some, None}
use Rattle.ebpf_command.specs.declared.format.Format.{Format}
use Rattle.ebpf_report.specs.declared.stats.Stats.{Stats}
use Rattle.ebpf_report.specs.declared.watch.Times.{Times}
use Rattle.ebpf_report.specs.StatsLines.{table_in}

-- nothing where no jobs were done
abbrev pub table_if : Format → Option Stats → Times → List ℕ
table_if format None t = []
table_if format (Some s) t = table_in format s t

-- how often a shelf that had been filled was found empty; never where no jobs were done
abbrev pub misses_if : Option Stats → ℕ
misses_if None = 0
misses_if (Some s) = s.misses
