use Rattle.std.proofs.Common.{◌≡◌, ℤ, w16, to_z, of_z, refl, sym, subst, rules}
use Rattle.std.proofs.lemmas.Int.{to_z-of_z}
use Rattle.ebpf_link.specs.declared.linked.Linked.{Linked}
use Rattle.ebpf_link.specs.Right.{IsJudged}
use Rattle.ebpf_link.specs.Words.{IsFree}
use Rattle.ebpf_link.specs.Choice.{wanted_of, subject_of, LinksTo, IsLinkedBy}
use Rattle.ebpf_link.proofs.Chosen.{IsTry, taken, tried_unshown, tried_refused}
use Rattle.ebpf_link.proofs.choice.try_word.Goals.{In_ok-judge}
use Rattle.ebpf_link.proofs.choice.try_word.Goals as goal

abbrev made : (c : In_ok-judge) → Linked
made c = record { program = c.in_ok-program.program; word = c.word_at-word.result }

back : (c : In_ok-judge) → to_z w16 (of_z w16 (made c).word) ≡ (made c).word
back c = to_z-of_z w16 (made c).word (search rules)

tried : (c : In_ok-judge) → IsTry (wanted_of c.args.given.now) c.args.number (made c) c.in_ok-judge.field-0
tried c =
    let w = wanted_of c.args.given.now in
    let l = made c in record {
      few = c.requires.few;
      is = c.word_at-word.ensures;
      free = subst (IsFree w.program) (back c) (c.if-not-is_free.ensures.free refl);
      links = subst (λ (z : ℤ). LinksTo w z l.program) (back c) c.in_ok-program.ensures.linked;
      told = subst (λ (z : ℤ). IsJudged (subject_of w l.program) z c.in_ok-judge.field-0) (back c) c.in_ok-judge.ensures;
    }

pub returns-in-Shown-clause-taken : goal.returns-in-Shown-clause-taken
returns-in-Shown-clause-taken c =
    let at = (goal.at.returns-in-Shown-clause-taken c).In_ok-judge in
    let w = wanted_of c.args.given.now in
    subst (λ (z : ℤ). IsLinkedBy w z (made at).program) (sym (back at)) (taken w c.args.number (made at) c.in_ok-judge.field-0 (tried at) c.in-Shown.is)

pub returns-in-Unshown-clause-tried : goal.returns-in-Unshown-clause-tried
returns-in-Unshown-clause-tried c e =
    let at = (goal.at.returns-in-Unshown-clause-tried c).In_ok-judge in
    tried_unshown (wanted_of c.args.given.now) c.args.number c.args.refused.now (made at) c.in_ok-judge.field-0 c.requires.tried (tried at) c.in-Unshown.is

pub returns-in-Refused-clause-tried : goal.returns-in-Refused-clause-tried
returns-in-Refused-clause-tried c e =
    let at = (goal.at.returns-in-Refused-clause-tried c).In_ok-judge in
    rw (c.keep_first.ensures, back at)
    (tried_refused (wanted_of c.args.given.now) c.args.number c.args.refused.now (made at) c.in_ok-judge.field-0 c.requires.tried (tried at) c.in-Refused.is)
