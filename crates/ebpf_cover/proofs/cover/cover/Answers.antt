use Rattle.std.proofs.Common.{◌≡◌, ◌<◌, ◌+◌, ◌∷◌, List, Vec, Global, drop, length, get_or, refl, sym, ◌∙◌, subst, rules, arith}
use Rattle.std.specs.Prelude.{IfOk}
use Rattle.std.proofs.lemmas.Option.{slice_get_read}
use Rattle.job_list.specs.JobLists.{job_of}
use Rattle.ebpf_cover.specs.declared.tally.Tally.{Tally}
use Rattle.ebpf_cover.specs.Tallies.{AreTallies, AreSums}
use Rattle.ebpf_cover.proofs.Summing.{HaveCounted, tallies_counted, blank_counted, job_counted_in, job_passed_in, all_ok, next_is, rest_is, some_left}
use Rattle.ebpf_cover.proofs.cover.cover.Goals.{then-program-accepted+in_ok-workspace-2, else-program-accepted}
use Rattle.ebpf_cover.proofs.cover.cover.Goals as goal

pub unreachable-requires : goal.unreachable-requires
unreachable-requires c =
    some_left c.args.reports.now c.covered.index (omega (arith, c.covered-test.true, c.len-index-end.ensures, c.requires.all)) (sym c.covered.invariant.left ∙ c.in_default.ensures.0)

pub covered-init : goal.covered-init
covered-init c = record {
  left = c.iter-left.ensures;
  counted = blank_counted c.args.accepted.now c.in_ok-tallies.tallies.items c.args.jobs.now c.args.reports.now c.in_ok-tallies.ensures.tallies c.in_ok-tallies.ensures.blank;
}

pub count_run-requires-clause-tally : goal.count_run-requires-clause-tally
count_run-requires-clause-tally c =
    let subjects = c.args.accepted.now in
    let tallies = c.covered.tallies.items in
    let counted = c.covered.invariant.counted in
    let program = c.job-job.result.program in
    (counted.each program c.index-accepted-program.result c.index_mut-tally.result.now
    (slice_get_read subjects (length subjects) program c.index-accepted-program.result refl c.if-program-accepted.true c.index-accepted-program.is)
    (slice_get_read tallies (length tallies) program c.index_mut-tally.result.now refl (omega (arith, c.if-program-accepted.true, counted.long)) c.index_mut-tally.ensures.value)).0

pub sum_up-requires : goal.sum_up-requires
sum_up-requires c =
    let same : c.covered.tallies.items ≡ c.deref.result.now = search rules in
    subst (λ (ts : List Tally). AreTallies c.args.accepted.now ts) same
    (tallies_counted c.args.accepted.now c.covered.tallies.items c.args.jobs.now c.args.reports.now c.covered.index c.covered.invariant.counted)

pub covered-preserved : goal.covered-preserved
covered-preserved c =
    let subjects = c.args.accepted.now in
    let jobs = c.args.jobs.now in
    let reports = c.args.reports.now in
    let k = c.covered.index in
    let i = c.covered.invariant in
    let job = job_of c.job-job.result in
    let report = c.in-Some.report.now in
    let inside : k < length jobs = omega (arith, c.covered-test.true, c.len-index-end.ensures) in
    let left : drop k reports ≡ report ∷ c.next.new.self = sym i.left ∙ (search rules) in
    let same : get_or reports k report ≡ report = next_is reports c.next.new.self k report left in record {
      left = rest_is reports c.next.new.self k report left;
      counted = elim c.if-program-accepted.branch [
        | then-program-accepted+in_ok-workspace-2 w ↦
            subst (λ (ts : Vec Tally Global). HaveCounted subjects ts.items jobs reports (k + 1)) (sym w.tallies-is)
            (job_counted_in subjects c.covered.tallies.items jobs reports k job report w.index-accepted-program.result w.index_mut-tally.result.now w.count_run.new.tally inside
            c.requires.all c.job-job.ensures same
            (slice_get_read subjects (length subjects) job.program w.index-accepted-program.result refl w.if-program-accepted.true w.index-accepted-program.is)
            (slice_get_read c.covered.tallies.items (length c.covered.tallies.items) job.program w.index_mut-tally.result.now refl (omega (arith, w.if-program-accepted.true, i.counted.long))
            w.index_mut-tally.ensures.value)
            w.in_ok-workspace-2.ensures.tally w.in_ok-workspace-2.ensures.counted i.counted)
        | else-program-accepted w ↦
            subst (λ (ts : Vec Tally Global). HaveCounted subjects ts.items jobs reports (k + 1)) (sym w.tallies-is)
            (job_passed_in subjects c.covered.tallies.items jobs reports k job inside c.requires.all c.job-job.ensures w.if-program-accepted.false i.counted)
      ];
    }

pub returns : goal.returns
returns c =
    all_ok c.args.accepted.now c.covered.tallies.items c.args.jobs.now c.args.reports.now c.covered.index c.sum_up.result
    (let last : c.covered.index ≡ length c.args.jobs.now = omega (arith, c.covered-test.false, c.covered.auto.index-end, c.len-index-end.ensures) in last) c.requires.all c.covered.invariant.counted
    (let same : c.deref.result.now ≡ c.covered.tallies.items = search rules in subst (λ (ts : List Tally). IfOk c.sum_up.result (λ all. AreSums c.args.accepted.now ts all.items)) same c.sum_up.ensures)
