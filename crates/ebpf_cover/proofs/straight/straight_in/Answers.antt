use Rattle.std.proofs.Common.{◌≡◌, ◌+◌, ◌-◌, ◌<◌, ℕ, Vec, Global, List, length, get_or, ap, sym, ◌∙◌, subst, arith}
use Rattle.std.proofs.lemmas.List.{get_or_read, length-replicate}
use Rattle.ebpf_cover.proofs.Nothing.{zeros_at}
use Rattle.ebpf_cover.proofs.Numbering.{AreNumbered, none_numbered, one_numbered, none_more_numbered, all_numbered}
use Rattle.ebpf_cover.proofs.straight.straight_in.Goals.{then-goes_on, else-goes_on}
use Rattle.ebpf_cover.proofs.straight.straight_in.Goals as goal

pub slots-init : goal.slots-init
slots-init c =
    let zeros = c.in_ok-straight.ensures.items_if_clones_equal (λ y e. e) in
    none_numbered c.args.verified.now.program c.slots-slots.result c.in_ok-straight.straight.items
    (c.slots-slots.ensures.value ∙ ap length c.program.ensures.value)
    (ap length zeros ∙ length-replicate {A = ℕ} c.slots-slots.result 0)
    (λ slot. ap (λ (numbers : List ℕ). get_or numbers slot 0) zeros ∙ zeros_at c.slots-slots.result slot)

pub overflow_add-index : goal.overflow_add-index
overflow_add-index c =
    let next = c.slots-slots.result - 1 - c.slots.past + 1 in
    let few : next < c.slots-slots.result = omega (arith, c.goes_on.ensures.inside c.if-goes_on.true, c.slots-slots.ensures.value, ap length c.program.ensures.value) in
    let is = get_or_read c.slots.straight.items next c.index.result.now (omega (arith, few, c.slots.invariant.long)) c.index.ensures 0 in
    let inside = c.slots.invariant.inside next few in
    omega (arith, is, inside, c.slots-slots.ensures.bound)

pub slots-preserved : goal.slots-preserved
slots-preserved c =
    let p = c.args.verified.now.program in
    let slots = c.slots-slots.result in
    let past = c.slots.past in
    let at = slots - 1 - past in
    let here : at + past + 1 ≡ slots = omega (arith, c.slots-test.true) in
    elim c.if-goes_on.branch [
      | then-goes_on w ↦
          let more : at + 1 < slots = omega (arith, c.goes_on.ensures.inside w.if-goes_on.true, c.slots-slots.ensures.value, ap length c.program.ensures.value) in
          let is = get_or_read c.slots.straight.items (at + 1) w.index.result.now (omega (arith, more, c.slots.invariant.long)) w.index.ensures 0 in
          subst (λ (s : Vec ℕ Global). AreNumbered p slots (past + 1) s.items) (sym w.straight-is) (one_numbered p slots past at (w.index.result.now + 1) c.slots.straight.items here more (sym c.goes_on.ensures.value ∙ w.if-goes_on.true) (ap (λ (n : ℕ). n + 1) is) c.slots.invariant)
      | else-goes_on w ↦
          subst (λ (s : Vec ℕ Global). AreNumbered p slots (past + 1) s.items) (sym w.straight-is) (none_more_numbered p slots past at c.slots.straight.items here (sym c.goes_on.ensures.value ∙ w.if-goes_on.false) c.slots.invariant)
    ]

pub returns-clause-straight : goal.returns-clause-straight
returns-clause-straight c = all_numbered c.args.verified.now.program c.slots-slots.result c.slots.past c.slots.straight.items (let all : c.slots-slots.result ≡ c.slots.past = omega (arith, c.slots-test.false, c.slots.auto.past-end) in all) c.slots.invariant
