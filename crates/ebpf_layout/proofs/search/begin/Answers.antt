use Rattle.std.proofs.Common.{ℕ, replicate, ap, ◌∙◌}
use Rattle.ebpf_layout.specs.declared.mark.Mark.TheVariants.{New}
use Rattle.ebpf_flow.proofs.Next.{slot_zero_is_insn}
use Rattle.ebpf_layout.proofs.Searching.{search_begins}
use Rattle.ebpf_layout.proofs.search.begin.Goals as goal

pub returns-clause-begun : goal.returns-clause-begun
returns-clause-begun c =
    let zero = slot_zero_is_insn c.args.program.now c.slots-slots.ensures.formed in
    rw (
      c.in_ok-enter.ensures.marks,
      c.in_ok-enter.ensures.path,
      c.in_ok-enter.ensures.order,
      c.in_ok-with_capacity.ensures.items,
      c.in_ok-with_capacity-2.ensures.items,
    )
    (search_begins c.args.program.now c.in_ok-vec.field-0.items
    (c.in_ok-vec.ensures.items_if_clones_equal (λ y e. e) ∙ ap (λ (n : ℕ). replicate n New) c.slots-slots.ensures.value) c.slots-slots.ensures.formed zero)
