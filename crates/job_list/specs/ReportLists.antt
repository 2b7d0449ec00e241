-- Lists of reports, as they are kept.
use Rattle.std.proofs.Common.{Vec, Global}
use Rattle.std.specs.Prelude.{List}
use Rattle.std.specs.List.{flat_map}
use Rattle.ebpf_machine.specs.declared.report.Report.{Report}

-- the reports of a bundle, as they are kept
abbrev pub Kept : Type 0
Kept = Vec Report Global

-- the reports of all bundles, one bundle after another
abbrev pub all_in : List Kept → List Report
all_in places = flat_map (λ kept. kept.items) places
