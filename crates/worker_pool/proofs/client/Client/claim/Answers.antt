use Rattle.std.proofs.Common.{◌∙◌, arith}
use Rattle.ebpf_owned.proofs.Holding.{once_claimed, once_same}
use Rattle.worker_pool.proofs.client.Client.claim.Goals as goal

pub invariant_of-self : goal.invariant_of-self
invariant_of-self g c =
    let client = c.args.self.now in
    let claim = c.in-Ok.ensures in record {
      slots = client.slots;
      seated = claim.table ∙ client.seated;
      once = once_claimed _ _ client.seat.held _ claim.claimed.0 claim.claimed.1 client.once;
      few = client.few;
      clashed = omega (arith, claim.none_lost, client.clashed);
    }

pub invariant_of-self-in-Err : goal.invariant_of-self-in-Err
invariant_of-self-in-Err g c =
    let client = c.args.self.now in
    let claim = c.in-Err.ensures in record {
      slots = client.slots;
      seated = claim.table ∙ client.seated;
      once = once_same client.seat.held _ claim.kept client.once;
      few = (c.count.ensures.few, client.few.1);
      clashed = let one = c.count.ensures.one_more in omega (arith, claim.one_lost, one, client.clashed);
    }
