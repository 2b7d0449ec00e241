use Rattle.std.proofs.Common.{◌≡◌, ◌++◌, drop, map, string_bytes}
use Rattle.ebpf_reader.specs.ReadScripts.{named}
use Rattle.ebpf_report.specs.CoveredLines.{programs_from}
use Rattle.ebpf_report.proofs.covered_text.write_programs.Given as goal

abbrev pub invariant-loop-name : goal.invariant-loop-name
invariant-loop-name l =
    string_bytes l.text ++ programs_from l.fn.format l.fn.sources l.fn.done.jobs.now l.fn.done.reports.now l.program (map named l.name-iterator) (drop l.program l.fn.done.accepted.now)
    ≡ string_bytes l.fn.text ++ programs_from l.fn.format l.fn.sources l.fn.done.jobs.now l.fn.done.reports.now 0 (map named l.fn.done.programs.now.entries) l.fn.done.accepted.now
