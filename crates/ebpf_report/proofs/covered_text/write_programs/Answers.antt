use Rattle.std.proofs.Common.{◌≡◌, ◌<◌, ◌++◌, ℕ, List, Option, Some, None, slice_index_or, length, drop, get_or, map, string_bytes, refl, sym, ap, ◌∙◌, subst, rules, arith}
use Rattle.std.specs.Prelude.{slice_get}
use Rattle.std.proofs.lemmas.Option.{slice_get_read}
use Rattle.ebpf_cover.specs.Covered.{executed_at, taken_at}
use Rattle.ebpf_reader.specs.ParsedScript.{Named}
use Rattle.ebpf_reader.specs.ReadScripts.{named}
use Rattle.ebpf_insn.specs.declared.insn.Insn.{Insn}
use Rattle.ebpf_lines.specs.declared.source.Source.{Source}
use Rattle.ebpf_report.specs.CoveredLines.{program_lines, programs_from}
use Rattle.ebpf_report.proofs.CoveredLemmas.{program_next, program_past, programs_done}
use Rattle.ebpf_report.proofs.covered_text.write_programs.Goals as goal

pub loop-name-preserved-then-program-done : goal.loop-name-preserved-then-program-done
loop-name-preserved-then-program-done c =
    let format = c.args.format in
    let done = c.args.done.now in
    let sources = c.args.sources.now in
    let jobs = done.jobs.now in
    let reports = done.reports.now in
    let k = c.loop-name.program in
    let s = c.index-done-program.result in
    let all = string_bytes c.args.text.now ++ programs_from format sources jobs reports 0 (map named done.programs.now.entries) done.accepted.now in
    let same : get_or done.accepted.now k s ≡ s = search rules in
    let counts = c.index-all-program.result in
    let subject : slice_get done.accepted.now k ≡ Some s = slice_get_read done.accepted.now (length done.accepted.now) k s refl c.if-program-done.true (sym same) in
    let inside : k < length c.args.all.now = omega (arith, c.if-program-done.true, c.requires.long) in
    let read : get_or c.args.all.now k counts ≡ counts = search rules in
    let there : slice_get c.args.all.now k ≡ Some counts = slice_get_read c.args.all.now (length c.args.all.now) k counts refl inside (sym read) in
    let lines = λ (name : List ℕ) (source : Option Source) (p : List (Option Insn)). string_bytes c.loop-name.text ++ program_lines format name source (executed_at counts) (taken_at counts) p in
    let written : string_bytes c.write_program.new.text ≡ lines (string_bytes c.in-Some.name.now) (slice_index_or sources k None) s.program =
    c.in_ok-write_program.ensures
    ∙ (λ n. lines (c.as_str.ensures.value n) (c.source_at-source.ensures n) (c.program.ensures.value n))
    ∙ (λ n. lines (string_bytes c.in-Some.name.now) (slice_index_or sources k None) (same n).program) in
    program_next format sources jobs reports k (named (c.in-Some.name.now, c.in-Some.field-0-1.now)) (map named c.next.new.self) s done.accepted.now counts all
    (string_bytes c.loop-name.text) (string_bytes c.write_program.new.text) c.if-program-done.true same (c.requires.each k s counts subject there) written
    (subst (λ (xs : List Named). string_bytes c.loop-name.text ++ programs_from format sources jobs reports k xs (drop k done.accepted.now) ≡ all) (ap (map named) c.in-Some.ensures.steps) c.loop-name.invariant)

pub loop-name-preserved : goal.loop-name-preserved
loop-name-preserved c =
    let format = c.args.format in
    let done = c.args.done.now in
    let sources = c.args.sources.now in
    let jobs = done.jobs.now in
    let reports = done.reports.now in
    let k = c.loop-name.program in
    let all = string_bytes c.args.text.now ++ programs_from format sources jobs reports 0 (map named done.programs.now.entries) done.accepted.now in
    program_past format sources jobs reports k (named (c.in-Some.name.now, c.in-Some.field-0-1.now)) (map named c.next.new.self) done.accepted.now all (string_bytes c.loop-name.text) c.if-program-done.false
    (subst (λ (xs : List Named). string_bytes c.loop-name.text ++ programs_from format sources jobs reports k xs (drop k done.accepted.now) ≡ all) (ap (map named) c.in-Some.ensures.steps) c.loop-name.invariant)

pub returns : goal.returns
returns c =
    let done = c.args.done.now in
    programs_done c.args.format c.args.sources.now done.jobs.now done.reports.now c.loop-name.program (map named c.loop-name.name-iterator) (drop c.loop-name.program done.accepted.now) _ (string_bytes c.loop-name.text) (ap (map named) c.in-None.ensures.steps.0) c.loop-name.invariant
