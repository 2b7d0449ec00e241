use Rattle.std.proofs.Common.{sym, ◌∙◌}
use Rattle.ebpf_layout.proofs.Searching.{search_ends}
use Rattle.ebpf_layout.proofs.search.order_of.Goals as goal

pub returns-clause-ordered : goal.returns-clause-ordered
returns-clause-ordered c =
    let s = c.loop-slot.search in
    search_ends c.args.program.now s.marks.items s.path.items s.order.items c.loop-slot.invariant (sym c.last.ensures ∙ c.in_default.is)
