use Rattle.std.proofs.Common.{length}
use Rattle.ebpf_assembly.proofs.cause.+misfit_from.Given as goal

abbrev pub decreases-misfit_from : goal.decreases-misfit_from
decreases-misfit_from l = length l.wanted.now
