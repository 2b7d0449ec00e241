use Rattle.std.proofs.Common.{◌∙◌, map, ap, sym, subst}
use Rattle.ebpf_state.specs.declared.held.Held.{Held}
use Rattle.ebpf_state.specs.Ascending.{IsAscending}
use Rattle.ebpf_state.proofs.HeldLists.{calls-tested}
use Rattle.ebpf_state.proofs.held.settle_held.Goals as goal

pub returns-else-null-clause-ascending : goal.returns-else-null-clause-ascending
returns-else-null-clause-ascending c =
    let same = ap (map (λ (h : Held). h.call)) c.mark_tested.ensures ∙ calls-tested c.args.call c.args.held.now.items in
    subst IsAscending (sym same) c.requires
