use Rattle.std.proofs.Common.{◌≡◌, ℕ, ℤ, List, inl, inr, subst, w16, to_z, of_z, rules}
use Rattle.std.proofs.lemmas.Int.{to_z-of_z}
use Rattle.std.proofs.lemmas.Result.{IfOk-weaker}
use Rattle.ebpf_link.specs.Right.{IsRight, IsShown}
use Rattle.ebpf_one.specs.LinkedText.{SendsRight}
use Rattle.ebpf_one.proofs.linked.send_accepted.Goals as goal

pub returns-then-branch : goal.returns-then-branch
returns-then-branch c =
    let e = c.in_ok-is_right.ensures in
    let q = c.args.verified.now.program in
    let back : to_z w16 (of_z w16 c.args.link.word) ≡ c.args.link.word = to_z-of_z w16 c.args.link.word (search rules) in
    IfOk-weaker c.send_right.result _ _
    (λ response h. inl (record {
      shown = subst (λ (x : ℤ). IsShown q x) back (e.shown c.if-branch.true);
      right = subst (λ (x : ℤ). IsRight q x) back (e.right c.if-branch.true);
      sends = subst (λ (after : List ℕ). SendsRight c.args.format c.args.run after c.args.verified.now c.args.of.now response) c.deref.ensures.value h;
    }))
    c.send_right.ensures

pub returns-else-branch : goal.returns-else-branch
returns-else-branch c =
    let q = c.args.verified.now.program in
    let back : to_z w16 (of_z w16 c.args.link.word) ≡ c.args.link.word = to_z-of_z w16 c.args.link.word (search rules) in
    IfOk-weaker c.answer_no_word.result _ _
    (λ response h. inr (record {
      unshown = subst (λ (x : ℤ). IsShown q x → ⊥) back (c.in_ok-is_right.ensures.unshown c.if-branch.false);
      told = h;
    }))
    c.answer_no_word.ensures
