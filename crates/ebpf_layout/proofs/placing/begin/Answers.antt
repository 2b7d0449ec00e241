use Rattle.std.proofs.Common.{ℕ, replicate, ap, ◌∙◌}
use Rattle.ebpf_layout.specs.declared.mark.Mark.TheVariants.{New}
use Rattle.ebpf_layout.proofs.Placed.{none_placed, zero_left}
use Rattle.ebpf_layout.proofs.placing.begin.Goals as goal

pub returns-clause-placing : goal.returns-clause-placing
returns-clause-placing c =
    rw c.in_ok-with_capacity.ensures.items
    (none_placed c.args.program.now c.in_ok-vec.field-0.items
    (c.in_ok-vec.ensures.items_if_clones_equal (λ y e. e) ∙ ap (λ (n : ℕ). replicate n New) c.slots-slots.ensures.value) c.slots-slots.ensures.formed)

pub returns-clause-left : goal.returns-clause-left
returns-clause-left c = zero_left c.slots-slots.result c.in_ok-vec.field-0.items (c.in_ok-vec.ensures.items_if_clones_equal (λ y e. e))
