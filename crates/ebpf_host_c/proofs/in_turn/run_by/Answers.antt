use Rattle.std.proofs.Common.{rules, ap, ◌∙◌, ◌≡◌, length}
use Rattle.shared_store.specs.Tools.{held_at}
use Rattle.shared_store.specs.declared.store.Store.{Store}
use Rattle.shared_store.specs.contracts.store.StoreObjects.TheImpl.{ghosts}
use Rattle.shared_store.proofs.ByKind.{hold_nothing_still}
use Rattle.ebpf_host_c.proofs.InTurn.{runs_by}
use Rattle.ebpf_host_c.proofs.in_turn.run_by.Goals as goal

pub invariant_of-worker : goal.invariant_of-worker
invariant_of-worker c =
    let was : c.deref_mut-store.result.now ≡ c.worker.inside.store.value = search rules in
    hold_nothing_still c.worker.inside.store.value.tools c.run_all.new.objects.tools c.worker.invariant
    (λ kind. c.run_all.ensures.outs kind ∙ ap (λ (s : Store). length (held_at s.tools kind)) was)

pub returns-clause-ran : goal.returns-clause-ran
returns-clause-ran c =
    let was : c.deref_mut-store.result.now.tools ≡ c.args.worker.now = search rules in
    rw (← was) (runs_by ghosts.store (λ s. s.tools) (λ s t told e. e) c.args.program.now c.args.contexts.now c.args.limit c.run_all.new.reports _ _ _ c.run_all.ensures.ran)

pub returns-clause-none : goal.returns-clause-none
returns-clause-none c =
    let was : c.deref_mut-store.result.now ≡ c.worker.inside.store.value = search rules in
    hold_nothing_still c.worker.inside.store.value.tools c.run_all.new.objects.tools c.worker.invariant
    (λ kind. c.run_all.ensures.outs kind ∙ ap (λ (s : Store). length (held_at s.tools kind)) was)
