use Rattle.std.proofs.Common.{◌∙◌, ℕ, List, get_or, ap}
use Rattle.ebpf_cover.proofs.Nothing.{zeros_at}
use Rattle.ebpf_cover.proofs.tally.Tally.none.Goals as goal

pub returns-clause-begun : goal.returns-clause-begun
returns-clause-begun c slot =
    ap (λ (counts : List ℕ). get_or counts slot 0) (c.in_ok-vec.ensures.items_if_clones_equal (λ y e. e)) ∙ zeros_at c.slots-slots.result slot

pub returns-clause-taken : goal.returns-clause-taken
returns-clause-taken c slot =
    ap (λ (counts : List ℕ). get_or counts slot 0) (c.in_ok-vec-2.ensures.items_if_clones_equal (λ y e. e)) ∙ zeros_at c.slots-slots.result slot
