use Rattle.std.proofs.Common.{◌≡◌, ◌<◌, Some, None, length, get_or, slice_index_or, refl, sym, ap, ◌∙◌, rules, arith}
use Rattle.std.specs.Option.{option_copied}
use Rattle.std.specs.Prelude.{slice_get}
use Rattle.std.proofs.lemmas.Option.{slice_get_read}
use Rattle.ebpf_explain.proofs.TextLemmas.{no_text, one_text}
use Rattle.ebpf_cover.specs.Covered.{executed_at, taken_at}
use Rattle.ebpf_report.specs.CoveredLines.{trace_at, trace_if, trace_in}
use Rattle.ebpf_report.proofs.covered_trace.write_each_trace.Goals as goal

pub loop-program-init : goal.loop-program-init
loop-program-init c = no_text _ _

pub loop-program-preserved : goal.loop-program-preserved
loop-program-preserved c =
    let done = c.args.done.now in
    let jobs = done.jobs.now in
    let reports = done.reports.now in
    let subjects = done.accepted.now in
    let k = c.loop-program.program in
    let s = c.index-done-program.result in
    let counts = c.index-all-program.result in
    let source = slice_index_or c.args.sources.now k None in
    let same : get_or subjects k s ≡ s = search rules in
    let subject : slice_get subjects k ≡ Some s = slice_get_read subjects (length subjects) k s refl c.loop-program-test.true (sym same) in
    let inside : k < length c.args.all.now = omega (arith, c.loop-program-test.true, c.requires.long) in
    let read : get_or c.args.all.now k counts ≡ counts = search rules in
    let there : slice_get c.args.all.now k ≡ Some counts = slice_get_read c.args.all.now (length c.args.all.now) k counts refl inside (sym read) in
    let are = c.requires.each k s counts subject there in
    let here : trace_if (option_copied c.source_at.result) (executed_at counts) (taken_at counts) c.program.result.now ≡ trace_at c.args.sources.now subjects jobs reports k =
    (λ n. trace_if (c.source_at.ensures n) (executed_at counts) (taken_at counts) (c.program.ensures.value n))
    ∙ (λ n. trace_if source (λ slot. executed_at counts slot) (λ slot. taken_at counts slot) (same n).program)
    ∙ (λ n. trace_if source (λ slot. are.executed slot n) (λ slot. are.taken slot n) s.program)
    ∙ ap (trace_in source k jobs reports) (sym subject) in
    one_text _ _ _ _ _ _ here c.loop-program.invariant c.in_ok-write_trace_if.ensures
