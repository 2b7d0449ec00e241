use Rattle.std.proofs.Common.{◌≡◌, ◌++◌, drop, string_bytes}
use Rattle.ebpf_report.specs.StatsLines.{caches_from}
use Rattle.ebpf_report.proofs.stats_text.write_caches.Given as goal

abbrev pub invariant-loop-kind : goal.invariant-loop-kind
invariant-loop-kind l = string_bytes l.text ++ caches_from l.format l.kind (drop l.kind l.totals) ≡ string_bytes l.fn.text ++ caches_from l.format 0 l.totals
