use Rattle.std.proofs.Common.{◌≡◌, Some, sym, ap, rules}
use Rattle.ebpf_command.proofs.Sending.{puts_then}
use Rattle.ebpf_report.specs.RunAnswers.{any_jobs_text, jobs_text}
use Rattle.ebpf_report.proofs.run_answer.RunAnswer.put.Goals as goal

pub returns-in-Some : goal.returns-in-Some
returns-in-Some g c =
    let beginning : c.as_bytes.result.now ≡ c.args.self.now.beginning.text = search rules in
    let some : c.args.self.now.jobs ≡ Some c.in-Some.jobs = search rules in
    let jobs : any_jobs_text c.args.self.now.jobs ≡ jobs_text c.in-Some.jobs = ap any_jobs_text some in
    puts_then _ _ _ _ _ _ _ _ _ (rw beginning at c.in_ok-put.ensures) (rw (sym jobs) at c.put-in-Some.ensures)
