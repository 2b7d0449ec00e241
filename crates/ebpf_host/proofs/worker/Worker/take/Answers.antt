use Rattle.std.proofs.Common.{rules, ◌≡◌, ◌∙◌, ap, length}
use Rattle.shared_store.specs.Tools.{held_at}
use Rattle.shared_store.specs.declared.store.Store.{Store}
use Rattle.shared_store.proofs.ByKind.{hold_nothing_still}
use Rattle.ebpf_host.proofs.worker.Worker.take.Goals as goal

pub invariant_of-self : goal.invariant_of-self
invariant_of-self c =
    let was : c.deref_mut.result.now ≡ c.self.inside.store.value = search rules in
    hold_nothing_still c.self.inside.store.value.tools c.taken.new.store.tools c.self.invariant
    (λ kind. c.taken.ensures.held kind ∙ ap (λ (s : Store). length (held_at s.tools kind)) was)
