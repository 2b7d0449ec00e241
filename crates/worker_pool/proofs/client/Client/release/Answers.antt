use Rattle.std.proofs.Common.{◌∙◌, arith, refl}
use Rattle.ebpf_owned.proofs.Holding.{released}
use Rattle.worker_pool.proofs.client.Client.release.Goals as goal

pub invariant_of-self : goal.invariant_of-self
invariant_of-self g c =
    let client = c.args.self.now in
    let r = released _ _ client.seat _ _ c.release.ensures.seat refl c.requires.held in
    record { slots = client.slots; seated = r.table ∙ client.seated; once = r.once client.once; few = client.few; clashed = omega (arith, r.lost, client.clashed) }
