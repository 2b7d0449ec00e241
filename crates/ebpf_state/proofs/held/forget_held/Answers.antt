use Rattle.std.proofs.Common.{rules, List, subst, sym, not}
use Rattle.std.specs.Prelude.{◌==◌}
use Rattle.std.proofs.lemmas.Fn.{filter_same}
use Rattle.ebpf_state.specs.declared.held.Held.{Held}
use Rattle.ebpf_state.specs.Ascending.{IsAscending}
use Rattle.ebpf_state.proofs.HeldLists.{calls_of, ascending-filter}
use Rattle.ebpf_state.proofs.held.forget_held.Goals as goal

pub returns-clause-value : goal.returns-clause-value
returns-clause-value c = filter_same _ _ _ (λ x b f' k. search rules) _ _ c.retain.ensures.filtered

pub returns-clause-ascending : goal.returns-clause-ascending
returns-clause-ascending c =
    subst (λ (held : List Held). IsAscending (calls_of held)) (sym (returns-clause-value c)) (ascending-filter (λ (h : Held). not (h.call == c.args.call)) c.args.held.now.items c.requires)
