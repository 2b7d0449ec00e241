use Rattle.std.proofs.Common.{refl, arith}
use Rattle.ebpf_reader.proofs.LaneLemmas.{same_sixteen, run_within, same_run}
use Rattle.ebpf_reader.proofs.again.same_run.Goals as goal

pub returns-then-others-eq0-clause-same : goal.returns-then-others-eq0-clause-same
returns-then-others-eq0-clause-same c = same_sixteen c.args.a.now c.args.b.now _ c.requires.a c.requires.b refl c.if-others-eq0.true

pub returns-else-others-eq0-clause-within : goal.returns-else-others-eq0-clause-within
returns-else-others-eq0-clause-within c = run_within c.args.a.now c.args.b.now _ c.requires.a c.requires.b refl (omega (arith, c.if-others-eq0.false))

pub returns-else-others-eq0-clause-same : goal.returns-else-others-eq0-clause-same
returns-else-others-eq0-clause-same c = same_run c.args.a.now c.args.b.now _ c.requires.a c.requires.b refl (omega (arith, c.if-others-eq0.false))
