use Rattle.std.proofs.Common.{rules, ◌≡◌, ◌++◌, ℕ, List, Some, OnOk, sym, ◌∙◌, subst}
use Rattle.std.specs.Prelude.{string_bytes}
use Rattle.job_list.specs.declared.jobs.Job.{Job}
use Rattle.ebpf_stream.specs.Answering.{IsDone, position_of}
use Rattle.ebpf_stream.specs.Feeding.{set_up}
use Rattle.ebpf_stream.proofs.AnswerLemmas.{answered_job}
use Rattle.ebpf_stream.proofs.answers.Answers.answer.Goals as goal

pub returns-in-Ok-Some-clause-answered : goal.returns-in-Ok-Some-clause-answered
returns-in-Ok-Some-clause-answered c =
    let s = set_up c.args.setup.now in
    let a = position_of c.args.self.now in
    let b = position_of c.run.new.self in
    let old = string_bytes c.args.self.now.text in
    let new = string_bytes c.run.new.self.text in
    let some : c.in-Ok-Some.field-0 ≡ Some c.in-Ok-Some.job = search rules in
    let done = subst (λ (j : Job). OnOk c.run.result ((here : List ℕ) × IsDone s (Some j) a b here × (new ≡ old ++ here))) c.in-Ok-Some.job-is c.run.ensures.done in
    answered_job c.run.result s c.args.line.now c.in-Ok-Some.job a b old new c.in-Ok-Some.ensures.fine (sym some ∙ c.in-Ok-Some.ensures.job) done
