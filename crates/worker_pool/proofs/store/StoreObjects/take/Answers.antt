use Rattle.std.proofs.Common.{ap, subst, ◌∙◌}
use Rattle.owners_table.specs.Owning.{Holds}
use Rattle.ebpf_object.specs.Object.{slot_of}
use Rattle.worker_pool.proofs.store.StoreObjects.take.Goals as goal

-- The object that is had from the cache has the slot that this worker claimed.
pub returns-in-Ok-clause-apart : goal.returns-in-Ok-clause-apart
returns-in-Ok-clause-apart g c other held same =
    c.in-Ok.ensures.claimed.1 (subst (λ slot. Holds slot c.args.self.now.client.seat.held) (same ∙ ap slot_of c.in-Ok.ensures.object) held)
