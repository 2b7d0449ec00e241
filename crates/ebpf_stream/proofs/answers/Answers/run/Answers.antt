use Rattle.std.proofs.Common.{rules, ◌≡◌, ◌+◌, ◌++◌, ℕ, List, [], length, map, get_or, slice_get, Some, sym, ap, ◌∙◌, subst}
use Rattle.std.proofs.lemmas.List.{append-nil}
use Rattle.ebpf_insn.specs.Program.{instructions}
use Rattle.ebpf_host.specs.Finding.{FindsIn}
use Rattle.ebpf_host.specs.Leaving.{AreLeft}
use Rattle.ebpf_host.specs.Reports.{IsReportWithin}
use Rattle.ebpf_host.specs.Stocks.{shelf_bytes}
use Rattle.ebpf_host.specs.Whole.{whole}
use Rattle.ebpf_stream.specs.Answering.{report_in}
use Rattle.ebpf_stream.proofs.AnswerLemmas.{element_inside, element_of, report_whole}
use Rattle.ebpf_stream.proofs.answers.Answers.run.Goals as goal

pub returns-clause-done : goal.returns-clause-done
returns-clause-done c =
    let programs = c.args.setup.now.programs.items in
    let k = c.args.job.now.program in
    let p = c.index-program.result.now in
    let inside = element_inside (λ q. q.verified.decl.context) programs k (length c.args.job.now.context) (ap (λ ns. slice_get ns k) c.args.setup.now.declared ∙ c.requires.declared) in
    let at = ap (λ j. j.program) c.job.view_is in
    let found : p ≡ get_or programs k p = c.index-program.ensures ∙ ap (λ n. get_or programs n p) at in
    let subject : slice_get (map (λ q. q.verified) programs) k ≡ Some p.verified =
    element_of (λ q. q.verified) programs k p inside ∙ ap (λ q. Some q.verified) (sym found) in
    let limit : c.len.result + 1 ≡ length (instructions p.verified.program) + 1 = ap (λ n. n + 1) c.len.ensures.value in
    let report = subst (λ (n : ℕ). IsReportWithin p.verified (whole p c.deref.result.now) n c.in-Ok.report) limit c.in-Ok.ensures.report in
    let bytes : c.deref.result.now ≡ c.args.job.now.context = search rules in
    let alone : p.data.items ≡ [] = ap (λ q. q.data.items) found ∙ c.args.setup.now.alone k p inside in
    let context : whole p c.deref.result.now ≡ c.args.job.now.context = (λ i. bytes i ++ alone i) ∙ append-nil c.args.job.now.context in
    let within = subst (λ (xs : List ℕ). IsReportWithin p.verified xs (length (instructions p.verified.program) + 1) c.in-Ok.report) context report in
    let found = subst (λ (xs : List ℕ). (shelf : ℕ) → FindsIn p.verified xs c.in-Ok.report shelf (shelf_bytes c.args.self.now.machine shelf)) context c.in-Ok.ensures.found in
    let left = subst (λ (xs : List ℕ). AreLeft c.args.self.now.machine c.run.new.self p.verified xs c.in-Ok.report) context c.in-Ok.ensures.shelves in
    let jobs : c.in-Some.jobs ≡ c.args.self.now.place.jobs + 1 = search rules in
    let faulty = ap (λ q. q.faulty) c.tell.ensures.place in (
      report_in c.args.setup.now.format c.args.self.now.place.jobs c.in-Ok.report,
      (
        p.verified,
        c.in-Ok.report,
        subject,
        report_whole p.verified c.args.job.now.context c.in-Ok.report within,
        found,
        (λ i. record { jobs = jobs i; lines = c.requires.next i; faulty = faulty i; shelves = λ shelf. (ap (λ m. shelf_bytes m shelf) c.tell.ensures.machine ∙ left shelf) i }),
        (λ i. report_in c.args.setup.now.format c.args.self.now.place.jobs c.in-Ok.report),
      ),
      c.in_ok-tell.ensures.told,
    )
