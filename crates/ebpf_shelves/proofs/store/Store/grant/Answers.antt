use Rattle.ebpf_shelves.proofs.Standing.{stands_granted}
use Rattle.ebpf_shelves.proofs.store.Store.grant.Goals as goal

pub invariant_of-self : goal.invariant_of-self
invariant_of-self c =
    let s = c.args.self.now in
    record {
      standing = stands_granted s.table.items s.shelves _ _ c.push.new.self.items c.push.ensures.items s.standing;
    }
