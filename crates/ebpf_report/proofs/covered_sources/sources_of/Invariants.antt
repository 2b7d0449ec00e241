use Rattle.std.proofs.Common.{map}
use Rattle.ebpf_reader.specs.ReadScripts.{named}
use Rattle.ebpf_report.proofs.SourcesLemmas.{AreSourcesBefore}
use Rattle.ebpf_report.proofs.covered_sources.sources_of.Given as goal

abbrev pub invariant-loop-program : goal.invariant-loop-program
invariant-loop-program l = AreSourcesBefore l.fn.object (map named l.fn.programs.entries) (map named l.program-iterator) l.sources.items
