use Rattle.std.proofs.Common.{◌≡◌, ◌++◌, string_bytes}
use Rattle.ebpf_core.specs.Shown.{OfWorld}
use Rattle.ebpf_report.specs.Below.{below}
use Rattle.ebpf_report.specs.WorldText.{run_in}
use Rattle.ebpf_report.proofs.world_text.write_runs.Given as goal

abbrev pub invariant-loop-run : goal.invariant-loop-run
invariant-loop-run l = OfWorld l.world (λ w. string_bytes l.text ≡ string_bytes l.fn.text ++ below (run_in l.format w) l.run)
