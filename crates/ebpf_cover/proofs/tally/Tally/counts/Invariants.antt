use Rattle.ebpf_cover.proofs.Numbering.{AreSummed}
use Rattle.ebpf_cover.proofs.tally.Tally.counts.Given as goal

abbrev pub invariant-slots : goal.invariant-slots
invariant-slots l = AreSummed l.verified.program l.fn.self l.slot l.executed.items
