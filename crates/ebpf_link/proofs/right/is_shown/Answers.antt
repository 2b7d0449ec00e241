use Rattle.std.proofs.Common.{◌≡◌, w16, to_z, of_z, length, subst, arith, rules, refl, below_more}
use Rattle.std.proofs.lemmas.Int.{to_z-of_z}
use Rattle.ebpf_link.specs.Right.{IsShown}
use Rattle.ebpf_link.proofs.Traced.{all_shown}
use Rattle.ebpf_link.proofs.right.is_shown.Goals as goal

pub loop-slot-preserved : goal.loop-slot-preserved
loop-slot-preserved c = record { shown = below_more _ _ c.loop-slot.invariant.shown (c.if-not-is_shown_at.ensures.shown refl) }

pub returns-clause-shown : goal.returns-clause-shown
returns-clause-shown c e =
    let q = c.args.trace.now.flowed.now in
    let back : to_z w16 (of_z w16 c.args.word) ≡ c.args.word = to_z-of_z w16 c.args.word (search rules) in
    let past : c.loop-slot.slot ≡ length q = omega (arith, c.loop-slot-test.false, c.requires.all) in
    subst (IsShown q) back (all_shown q _ (λ k lt. c.loop-slot.invariant.shown k (omega (arith, lt, past))))
