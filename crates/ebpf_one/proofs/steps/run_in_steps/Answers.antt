use Rattle.std.proofs.Common.{◌≡◌, sym, ap, ◌∙◌, false, rules}
use Rattle.std.specs.Prelude.{is_none}
use Rattle.ebpf_verify.specs.Subject.{Subject}
use Rattle.ebpf_machine.specs.World.{kinds_of}
use Rattle.ebpf_one.proofs.Tracing.{begins, is_under_way, none_traced, hidden_traced, shown_traced_at, reports_traced, writes_traced}
use Rattle.ebpf_one.proofs.steps.run_in_steps.Goals as goal

pub steps-init : goal.steps-init
steps-init c =
    let store = c.new-store.ensures in
    let run = c.in-Ok.ensures in
    none_traced _ _ _ _ _ _ _ _ _ store.nulls (begins _ _ _ _ _ store.nulls store.none store.bare c.requires.kinds run.started run.sound)

pub step_chosen-requires-clause-kinds : goal.step_chosen-requires-clause-kinds
step_chosen-requires-clause-kinds c = sym c.requires.kinds ∙ ap (λ (s : Subject). kinds_of s.rows) (sym (is_under_way c.steps.invariant).subject_is)

pub step_chosen-requires-clause-out : goal.step_chosen-requires-clause-out
step_chosen-requires-clause-out c = (is_under_way c.steps.invariant).out

pub step_chosen-requires-clause-alone : goal.step_chosen-requires-clause-alone
step_chosen-requires-clause-alone c = (is_under_way c.steps.invariant).alone

pub step_chosen-requires-clause-program : goal.step_chosen-requires-clause-program
step_chosen-requires-clause-program c = (is_under_way c.steps.invariant).subject_is

pub steps-preserved-then-step_chosen : goal.steps-preserved-then-step_chosen
steps-preserved-then-step_chosen c =
    let step = c.step_chosen.ensures in
    shown_traced_at c.steps.invariant _ _ step.turn step.bounded c.pc-slot.result c.pc-slot.ensures.value (sym c.if-step_chosen.ensures.chosen) _ _
    c.in_ok-write_heading_after.ensures c.in_ok-write_step_at.ensures

pub steps-preserved : goal.steps-preserved
steps-preserved c =
    let step = c.step_chosen.ensures in
    hidden_traced c.steps.invariant _ _ step.turn step.bounded (sym c.if-step_chosen.ensures.chosen)

pub finish-report-requires-clause-kinds : goal.finish-report-requires-clause-kinds
finish-report-requires-clause-kinds c = sym c.requires.kinds ∙ ap (λ (s : Subject). kinds_of s.rows) (sym (is_under_way c.steps.invariant).subject_is)

pub finish-report-requires-clause-out : goal.finish-report-requires-clause-out
finish-report-requires-clause-out c = (is_under_way c.steps.invariant).out

pub returns-clause-report : goal.returns-clause-report
returns-clause-report c =
    let exited : is_none c.steps.run.exit ≡ false = search rules in
    reports_traced c.steps.invariant _ _ c.finish-report.ensures (sym c.if-is_short.ensures) exited

pub returns-clause-steps : goal.returns-clause-steps
returns-clause-steps c = writes_traced c.steps.invariant _ _ c.finish-report.ensures (sym c.if-is_short.ensures)

pub finish-report-requires-clause-alone : goal.finish-report-requires-clause-alone
finish-report-requires-clause-alone c = (is_under_way c.steps.invariant).alone
