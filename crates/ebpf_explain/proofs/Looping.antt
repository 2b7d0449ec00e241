-- What paths that go forward lead to, one slot after another.
use Rattle.std.proofs.Common.{◌≡◌, ℕ, ◌+◌, ◌-◌, ◌<◌, List, Bool, false, Option, refl, add-one, arith, ◌∙◌}
use Rattle.std.proofs.lemmas.Bool.{ne_eqb}
use Rattle.std.specs.Prelude.{◌==◌, ◌&&◌, ◌||◌}
use Rattle.ebpf_insn.specs.declared.insn.Insn.{Insn}
use Rattle.ebpf_flow.specs.Edges.{has_edge_to, edges_at}
use Rattle.ebpf_explain.specs.Loops.{led_by}

pub led_by-none : (p : List (Option Insn)) (from k : ℕ) → led_by p from 0 k ≡ (k == from)
unfolding led_by
led_by-none p from k = refl

pub led_by-more : (p : List (Option Insn)) (from n k : ℕ) (here old new : Bool) → here ≡ led_by p from n (from + n) → old ≡ led_by p from n k
    → new ≡ ((here && has_edge_to (edges_at p (from + n)) k) || old) → new ≡ led_by p from (n + 1) k
unfolding led_by
led_by-more p from n k here old new h e is = rw (add-one, is, h, e) refl

-- nothing leads forward to what comes before
pub led_by-past : (p : List (Option Insn)) (from to : ℕ) → to < from → led_by p from (to - from) to ≡ false
led_by-past p from to lt =
    let none : to - from ≡ 0 = omega arith in
    rw none (led_by-none p from to ∙ ne_eqb to from (λ e. omega (arith, e)))
