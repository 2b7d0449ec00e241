use Rattle.std.proofs.Common.{ap, ◌∙◌, arith}
use Rattle.ebpf_owned.specs.Claims.{lost}
use Rattle.ebpf_owned.proofs.Holding.{once_same, once_claimed}
use Rattle.worker_pool.proofs.client.Client.fetch.Goals as goal

pub invariant_of-self : goal.invariant_of-self
invariant_of-self g c =
    let client = c.args.self.now in
    let e = c.in-Ok.ensures in record {
      slots = client.slots;
      seated = e.table ∙ client.seated;
      once = once_claimed _ _ client.seat.held _ e.fetched.0 e.fetched.1 client.once;
      few = client.few;
      clashed = let same = ap lost e.notes.0 in omega (arith, same, client.clashed);
    }

pub invariant_of-self-in-Err : goal.invariant_of-self-in-Err
invariant_of-self-in-Err g c =
    let client = c.args.self.now in
    let e = c.in-Err.ensures in record {
      slots = client.slots;
      seated = e.table ∙ client.seated;
      once = once_same client.seat.held _ e.kept client.once;
      few = (client.few.0, c.count.ensures.few);
      clashed = let same = ap lost e.notes.0 in omega (arith, same, client.clashed);
    }
