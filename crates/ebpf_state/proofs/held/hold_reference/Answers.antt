use Rattle.std.proofs.Common.{rules, ◌≡◌, ◌∙◌, List, Ok, Err, sym, subst}
use Rattle.std.proofs.lemmas.List.Sorted.{answers_always}
use Rattle.ebpf_state.specs.declared.held.Held.{Held}
use Rattle.ebpf_state.specs.Ascending.{IsAscending}
use Rattle.ebpf_state.specs.References.{held_with}
use Rattle.ebpf_state.proofs.HeldLists.{calls_of}
use Rattle.ebpf_state.proofs.HeldPlaces.{placed, held_with-placed, ascending-held_with}
use Rattle.ebpf_state.proofs.held.hold_reference.Goals as goal

pub returns-in-Ok-clause-ok : goal.returns-in-Ok-clause-ok
returns-in-Ok-clause-ok c =
    let searched = c.deref.ensures.value in
    let ascending = subst (λ (held : List Held). IsAscending (calls_of held)) (sym searched) c.requires in
    let found = c.in-Ok.ensures.position (λ (h : Held). h.call) (answers_always _ _ _ (λ f a r g called. search rules)) in
    subst (λ (held : List Held). placed c.args.new held (Ok c.in-Ok.place) ≡ held_with c.args.new held) searched
    (held_with-placed c.args.new c.deref.result.now (Ok c.in-Ok.place) ascending c.in-Ok.ensures.bound found)

pub returns-in-Ok-clause-ascending : goal.returns-in-Ok-clause-ascending
returns-in-Ok-clause-ascending c =
    subst (λ (held : List Held). IsAscending (calls_of held)) (sym (returns-in-Ok-clause-ok c)) (ascending-held_with c.args.new c.args.held.now.items c.requires)

pub returns-in_ok-insert-in-Err-clause-ok : goal.returns-in_ok-insert-in-Err-clause-ok
returns-in_ok-insert-in-Err-clause-ok c =
    let searched = c.deref.ensures.value in
    let ascending = subst (λ (held : List Held). IsAscending (calls_of held)) (sym searched) c.requires in
    let found = c.in-Err.ensures.position (λ (h : Held). h.call) (answers_always _ _ _ (λ f a r g called. search rules)) in
    c.in_ok-insert-in-Err.ensures.items
    ∙ subst (λ (held : List Held). placed c.args.new held (Err c.in-Err.place) ≡ held_with c.args.new held) searched
    (held_with-placed c.args.new c.deref.result.now (Err c.in-Err.place) ascending c.in-Err.ensures.bound found)

pub returns-in_ok-insert-in-Err-clause-ascending : goal.returns-in_ok-insert-in-Err-clause-ascending
returns-in_ok-insert-in-Err-clause-ascending c =
    subst (λ (held : List Held). IsAscending (calls_of held)) (sym (returns-in_ok-insert-in-Err-clause-ok c)) (ascending-held_with c.args.new c.args.held.now.items c.requires)
