use Rattle.std.proofs.Common.{All, take}
use Rattle.ebpf_verify.specs.Verdict.{IsAccepted}
use Rattle.ebpf_core.proofs.replay.accept.Given as goal

abbrev pub invariant-loop-verified : goal.invariant-loop-verified
invariant-loop-verified l = All IsAccepted (take l.verified-index l.programs)
