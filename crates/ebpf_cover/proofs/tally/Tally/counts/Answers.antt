use Rattle.std.proofs.Common.{◌≡◌, ◌+◌, ◌-◌, ◌≤◌, ℕ, cond, Bool, List, Vec, Global, get_or, ap, sym, ◌∙◌, subst, rules, arith}
use Rattle.std.proofs.lemmas.List.{get_or_read}
use Rattle.ebpf_cover.specs.Stretches.{slots_in}
use Rattle.ebpf_cover.proofs.Numbering.{AreSummed, one_summed, next_summed, none_next_summed, on_by, off_by, all_summed}
use Rattle.ebpf_cover.proofs.tally.Tally.counts.Goals.{then-index-gt0+in_ok-add, else-index-gt0}
use Rattle.ebpf_cover.proofs.tally.Tally.counts.Goals as goal

pub slots-init : goal.slots-init
slots-init c = subst (λ (xs : List ℕ). AreSummed c.args.verified.now.program c.args.self.now 1 xs) (let same : c.args.self.now.begun.items ≡ c.in_ok-executed.executed.items = search rules in same) (one_summed _ _ c.requires)

pub slots-preserved : goal.slots-preserved
slots-preserved c =
    let p = c.args.verified.now.program in
    let t = c.args.self.now in
    let slot = c.slots.slot in
    let before = slot - 1 in
    let some : 1 ≤ slot = omega (arith, c.slots.auto.slot) in
    let follows : before + 1 ≡ slot = omega (arith, some) in
    let number = get_or_read t.straight.items before c.index.result.now (omega (arith, c.slots-test.true, c.len-slot-end.ensures)) c.index.ensures 0 in
    elim c.if-index-gt0.branch [
      | then-index-gt0+in_ok-add w ↦
          let on = on_by p t before c.index.result.now c.requires number w.if-index-gt0.true in
          let more = get_or_read c.slots.executed.items before w.index-before.result.now (omega (arith, c.slots-test.true, c.len-slot-end.ensures, c.slots.invariant.long)) w.index-before.ensures 0 in
          subst (λ (e : Vec ℕ Global). AreSummed p t (slot + 1) e.items) (sym w.executed-is)
          (next_summed p t before slot w.index-before.result.now c.slots.executed.items w.add.new.counts.items follows
          (more ∙ sym (ap (λ (b : Bool). cond {A = ℕ} b (get_or c.slots.executed.items before 0) 0) on)) w.in_ok-add.ensures.long w.in_ok-add.ensures.added c.slots.invariant)
      | else-index-gt0 w ↦
          let off = off_by p t before c.index.result.now c.requires number w.if-index-gt0.false in
          subst (λ (e : Vec ℕ Global). AreSummed p t (slot + 1) e.items) (sym w.executed-is) (none_next_summed p t before slot c.slots.executed.items follows (sym (ap (λ (b : Bool). cond {A = ℕ} b (get_or c.slots.executed.items before 0) 0) off)) c.slots.invariant)
    ]

pub returns-clause-executed : goal.returns-clause-executed
returns-clause-executed c = all_summed _ _ c.slots.slot c.slots.executed.items c.requires (let last : slots_in c.args.self.now ≤ c.slots.slot = omega (arith, c.slots-test.false, c.len-slot-end.ensures) in last) c.slots.invariant
