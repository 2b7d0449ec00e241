use Rattle.std.proofs.Common.{subst, arith}
use Rattle.ebpf_core.specs.Shown.{IsRefused}
use Rattle.ebpf_core.proofs.Underway.{underway_next, underway_refused, underway_last}
use Rattle.ebpf_core.proofs.replay.replay.Goals as goal

pub loop-index-preserved : goal.loop-index-preserved
loop-index-preserved c =
    underway_next c.args.programs.now c.args.events.now c.loop-index.index c.loop-index.world c.follow.new.self c.index-events-index.result (omega arith)
    c.index-events-index.is c.loop-index.invariant c.in-Ok.ensures.done c.follow.ensures.programs

pub returns-clause-done : goal.returns-clause-done
returns-clause-done c = underway_last c.args.programs.now c.args.events.now c.loop-index.index c.loop-index.world (omega arith) c.loop-index.invariant

pub returns-in-Err-Bad-clause-refused : goal.returns-in-Err-Bad-clause-refused
returns-in-Err-Bad-clause-refused c =
    let refused = subst (IsRefused c.index-events-index.result c.loop-index.world) c.in-Err-Bad.field-0-is c.in-Err-Bad.ensures.refused in
    let why = underway_refused c.args.programs.now c.args.events.now c.loop-index.index c.loop-index.world c.index-events-index.result c.in-Err-Bad.code
    (omega arith) c.index-events-index.is c.loop-index.invariant refused in
    rw c.in-Err-Bad.field-0-is why
