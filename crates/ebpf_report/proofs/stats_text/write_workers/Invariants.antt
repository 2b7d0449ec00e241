use Rattle.std.proofs.Common.{◌≡◌, ◌++◌, drop, string_bytes}
use Rattle.ebpf_report.specs.StatsLines.{workers_from}
use Rattle.ebpf_report.proofs.stats_text.write_workers.Given as goal

abbrev pub invariant-loop-worker : goal.invariant-loop-worker
invariant-loop-worker l = string_bytes l.text ++ workers_from l.format l.worker (drop l.worker l.jobs_done) ≡ string_bytes l.fn.text ++ workers_from l.format 0 l.jobs_done
