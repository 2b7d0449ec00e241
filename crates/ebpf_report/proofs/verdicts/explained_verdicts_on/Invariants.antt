use Rattle.std.proofs.Common.{map}
use Rattle.ebpf_reader.specs.ReadScripts.{named}
use Rattle.ebpf_report.proofs.ExplainedLemmas.{AreExplainedBefore}
use Rattle.ebpf_report.proofs.verdicts.explained_verdicts_on.Given as goal

abbrev pub invariant-loop-name : goal.invariant-loop-name
invariant-loop-name l = AreExplainedBefore l.fn.format l.fn.explain (map named l.programs.entries) (map named l.name-iterator) l.verdicts
