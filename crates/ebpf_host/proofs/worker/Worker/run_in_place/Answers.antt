use Rattle.std.proofs.Common.{rules, ◌≡◌, ◌∙◌, ap, length}
use Rattle.shared_store.specs.Tools.{held_at}
use Rattle.shared_store.specs.declared.store.Store.{Store}
use Rattle.shared_store.proofs.ByKind.{hold_nothing_still}
use Rattle.ebpf_host.proofs.worker.Worker.run_in_place.Goals as goal

pub invariant_of-self-2 : goal.invariant_of-self-2
invariant_of-self-2 c =
    let was : c.deref_mut-store.result.now ≡ c.self.inside.store.value = search rules in
    hold_nothing_still c.self.inside.store.value.tools c.run_within.new.objects.tools c.self.invariant
    (λ kind. c.run_within.ensures.outs kind ∙ ap (λ (s : Store). length (held_at s.tools kind)) was)

pub returns-clause-none : goal.returns-clause-none
returns-clause-none c =
    let was : c.deref_mut-store.result.now ≡ c.self.inside.store.value = search rules in
    hold_nothing_still c.self.inside.store.value.tools c.run_within.new.objects.tools c.self.invariant
    (λ kind. c.run_within.ensures.outs kind ∙ ap (λ (s : Store). length (held_at s.tools kind)) was)
