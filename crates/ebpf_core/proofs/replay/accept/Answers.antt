use Rattle.std.proofs.Common.{All, take_all, subst, arith}
use Rattle.std.proofs.lemmas.List.Elements.{All-more}
use Rattle.ebpf_verify.specs.Verdict.{IsAccepted}
use Rattle.ebpf_core.proofs.Isolated.{always_safe}
use Rattle.ebpf_core.proofs.replay.accept.Goals as goal

pub loop-verified-preserved : goal.loop-verified-preserved
loop-verified-preserved c = All-more IsAccepted c.args.programs.now c.loop-verified.verified-index c.verified-item.result (omega arith)
    c.loop-verified.invariant (subst IsAccepted c.verified-item.is c.program.ensures.accepted)

pub returns : goal.returns
returns c = λ events. always_safe c.args.programs.now events
    (subst (All IsAccepted) (take_all c.loop-verified.verified-index c.args.programs.now (omega arith)) c.loop-verified.invariant) c.requires
