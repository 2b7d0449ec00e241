use Rattle.std.proofs.Common.{◌≡◌, ◌++◌, drop, string_bytes}
use Rattle.ebpf_report.specs.TotalsLines.{shelves_from}
use Rattle.ebpf_report.proofs.totals_text.write_shelves.Given as goal

abbrev pub invariant-loop-shelf : goal.invariant-loop-shelf
invariant-loop-shelf l = string_bytes l.text ++ shelves_from l.format l.shelf (drop l.shelf l.shelves) ≡ string_bytes l.fn.text ++ shelves_from l.format 0 l.shelves
