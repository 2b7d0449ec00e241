use Rattle.std.proofs.Common.{w16, rules}
use Rattle.std.proofs.lemmas.Int.{to_z-of_z}
use Rattle.ebpf_link.specs.Right.{IsJudged}
use Rattle.ebpf_link.proofs.Traced.{shown_by, unshown_by}
use Rattle.ebpf_link.proofs.Chosen.{right}
use Rattle.ebpf_link.proofs.right.is_right.Goals as goal

pub returns-in-Shown-clause-right : goal.returns-in-Shown-clause-right
returns-in-Shown-clause-right c e =
    let s = c.args.verified.now in
    let w = c.args.word in
    let judged : IsJudged s w c.in_ok-judged.judged =
    rw (c.program.ensures.value, c.decl.ensures, c.rows.ensures, to_z-of_z w16 w (search rules)) at c.in_ok-judged.ensures in
    right s.program w (shown_by s w c.in_ok-judged.judged judged c.in-Shown.is)

pub returns-in-Shown-clause-shown : goal.returns-in-Shown-clause-shown
returns-in-Shown-clause-shown c e =
    let s = c.args.verified.now in
    let w = c.args.word in
    let judged : IsJudged s w c.in_ok-judged.judged =
    rw (c.program.ensures.value, c.decl.ensures, c.rows.ensures, to_z-of_z w16 w (search rules)) at c.in_ok-judged.ensures in
    shown_by s w c.in_ok-judged.judged judged c.in-Shown.is

pub returns-in_default : goal.returns-in_default
returns-in_default c =
    let s = c.args.verified.now in
    let w = c.args.word in
    let judged : IsJudged s w c.in_ok-judged.judged =
    rw (c.program.ensures.value, c.decl.ensures, c.rows.ensures, to_z-of_z w16 w (search rules)) at c.in_ok-judged.ensures in
    record {
      right = λ e. absurd (cc);
      shown = λ e. absurd (cc);
      unshown = λ e. unshown_by s w c.in_ok-judged.judged judged c.program.ensures.accepted c.in_default.not-Shown;
    }
