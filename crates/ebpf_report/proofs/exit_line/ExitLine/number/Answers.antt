use Rattle.std.proofs.Common.{◌≡◌, ◌+◌, ◌++◌, ℕ, codes, decimal, ap, ◌∙◌, arith}
use Rattle.ebpf_report.specs.OutcomeLines.{ending_words}
use Rattle.ebpf_report.proofs.CountLemmas.{counted}
use Rattle.ebpf_report.proofs.exit_line.ExitLine.number.Goals as goal

pub invariant_of-self : goal.invariant_of-self
invariant_of-self c =
    let line = c.args.self.now in
    let ending = ending_words line.exit line.executed line.peak in
    let e = c.count_on.ensures.counted c.if-count_on.true in
    let next : line.job + 1 ≡ c.args.job = omega (arith, c.if-self-job.true, c.if-job-self-eq1.true) in
    record {
      text = e.1 ∙ (counted line.job line.after line.line ending (omega (arith, next, c.ranges.job.fits)) line.text line.after_is e.0
          ∙ ap (λ (n : ℕ). codes "job " ++ (decimal n ++ ending)) next);
      after_is = line.after_is;
      few = line.few;
    }
