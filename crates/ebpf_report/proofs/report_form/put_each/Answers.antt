use Rattle.std.proofs.Common.{◌≡◌, ◌∷◌, [], ap, length, rules, arith}
use Rattle.ebpf_report.specs.ReportForms.{each_from}
use Rattle.ebpf_report.proofs.PutLemmas.{first_none, first_stops, first_more}
use Rattle.ebpf_report.proofs.report_form.put_each.Goals as goal
use Rattle.ebpf_report.proofs.report_form.put_each.Goals.{in-Some+in_ok-put, in_default}

pub loop-job-init : goal.loop-job-init
loop-job-init g c = rw c.iter-left.ensures (record { len = omega arith; sent = first_none _ _ _ })

pub returns-in_err-put : goal.returns-in_err-put
returns-in_err-put g c =
    let next : c.loop-job.left ≡ c.in-Some.report.now ∷ c.next.new.self = search rules in
    first_stops _ _ _ _ _ _ _ _ c.loop-job.invariant.sent _ _ (ap (each_from g.F.ReportForm.text c.loop-job.job) next) _ _ c.in_err-put.ensures c.from_residual.ensures.1

pub loop-job-preserved : goal.loop-job-preserved
loop-job-preserved g c = elim c.match-next.branch [
  | in-Some+in_ok-put w ↦
      let next : c.loop-job.left ≡ w.in-Some.report.now ∷ c.next.new.self = search rules in
      let len = ap length next in
      record {
        len = omega (arith, len, c.loop-job.invariant.len, c.loop-job-test.true);
        sent = rw (w.writer-is, w.piece-is) (first_more _ _ _ _ _ _ _ _ c.loop-job.invariant.sent _ _ (ap (each_from g.F.ReportForm.text c.loop-job.job) next) w.in_ok-put.ensures);
      }
  | in_default w ↦
      let none : c.loop-job.left ≡ [] = search rules in
      let len = ap length none in
      absurd (omega (arith, len, c.loop-job.invariant.len, c.loop-job-test.true))
]
