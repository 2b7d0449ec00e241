use Rattle.std.proofs.Common.{ap, length, arith}
use Rattle.worker_pool.proofs.Answering.{answered_none}
use Rattle.worker_pool.proofs.Bundles.{first_below}
use Rattle.worker_pool.proofs.bundle.by_fours.Goals as goal

pub jobs-init : goal.jobs-init
jobs-init g c =
    let inside = first_below c.args.shared.now.size (length c.args.shared.now.jobs.now) c.args.shared.now.sized.0 c.args.bundle c.requires.bundle in record {
      even = c.requires.even;
      answered = answered_none _ _ _ _ _ c.requires.none;
      from = omega arith;
      to = omega (arith, inside);
      len = omega (arith, ap length c.requires.none);
      room = omega (arith, c.requires.room, inside);
    }

pub jobs-preserved : goal.jobs-preserved
jobs-preserved g c =
    let i = c.jobs.invariant in
    let more = c.in_ok-number.ensures.more in record {
      even = c.answer_next.ensures.even;
      answered = c.answer_next.ensures.answered _ _ (omega (arith, i.len, i.from)) i.answered;
      from = omega (arith, i.from, more.1);
      to = omega (arith, i.to, more.2);
      len = omega (arith, i.len, i.from, more.0);
      room = omega (arith, i.room, c.answer_next.ensures.capacity);
    }

pub returns-in_err-number-clause-answered : goal.returns-in_err-number-clause-answered
returns-in_err-number-clause-answered g c =
    let i = c.jobs.invariant in
    c.answer_next.ensures.answered _ _ (omega (arith, i.len, i.from)) i.answered
