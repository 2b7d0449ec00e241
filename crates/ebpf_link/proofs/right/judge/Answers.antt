use Rattle.std.proofs.Common.{◌≡◌, ◌∙◌, w16, to_z, of_z, List, Option, length, None, sym, ap, subst, rules}
use Rattle.std.proofs.lemmas.Int.{to_z-of_z}
use Rattle.ebpf_insn.specs.declared.insn.Insn.{Insn}
use Rattle.ebpf_verify.specs.Subject.{Subject}
use Rattle.ebpf_link.specs.Right.{IsShown}
use Rattle.ebpf_link.proofs.Traced.{accepted, all_looked_at}
use Rattle.ebpf_link.proofs.right.judge.Goals as goal

pub is_shown-requires : goal.is_shown-requires
is_shown-requires c =
    let none : c.in_ok-trace.trace.refusal ≡ None = search rules in
    record { all = all_looked_at _ _ _ c.in_ok-trace.ensures.trace none ∙ sym (ap (λ (s : Subject). length s.program) c.in_ok-trace.ensures.subject) }

pub returns-then-is_shown : goal.returns-then-is_shown
returns-then-is_shown c =
    let p = c.args.program.now in
    let w = c.args.word in
    let none : c.in_ok-trace.trace.refusal ≡ None = search rules in
    let same : c.in-Ok.flowed ≡ p = c.in-Ok.ensures.checked ∙ c.in_ok-copy_of.ensures in
    let traced : c.in_ok-trace.trace.flowed.now ≡ p = ap (λ (s : Subject). s.program) c.in_ok-trace.ensures.subject ∙ same in
    let back : to_z w16 (of_z w16 w) ≡ w = to_z-of_z w16 w (search rules) in (
      accepted p _ _ _ _ _ same c.program.ensures.formed c.program.ensures.fine c.program.ensures.forward c.requires c.in_ok-trace.ensures.trace none,
      subst (IsShown p) back (subst (λ (q : List (Option Insn)). IsShown q (to_z w16 (of_z w16 w))) traced (c.is_shown.ensures.shown c.if-is_shown.true)),
    )

pub returns : goal.returns
returns c =
    let p = c.args.program.now in
    let w = c.args.word in
    let none : c.in_ok-trace.trace.refusal ≡ None = search rules in
    let same : c.in-Ok.flowed ≡ p = c.in-Ok.ensures.checked ∙ c.in_ok-copy_of.ensures in
    let traced : c.in_ok-trace.trace.flowed.now ≡ p = ap (λ (s : Subject). s.program) c.in_ok-trace.ensures.subject ∙ same in
    let back : to_z w16 (of_z w16 w) ≡ w = to_z-of_z w16 w (search rules) in (
      accepted p _ _ _ _ _ same c.program.ensures.formed c.program.ensures.fine c.program.ensures.forward c.requires c.in_ok-trace.ensures.trace none,
      λ shown. c.is_shown.ensures.unshown c.if-is_shown.false
          (subst (λ (q : List (Option Insn)). IsShown q (to_z w16 (of_z w16 w))) (sym traced) (subst (IsShown p) (sym back) shown)),
    )
