use Rattle.std.proofs.Common.{[], sym, arith}
use Rattle.ebpf_shelves.specs.Going.{granting, told_on}
use Rattle.ebpf_shelves.proofs.Granting.{fine_before, fine_last}
use Rattle.ebpf_one.proofs.Solo.{report_solo, starts_alone}
use Rattle.ebpf_one.proofs.Tracing.{IsAmple, begins}
use Rattle.ebpf_one.proofs.alone.run_alone.Goals as goal

pub run-requires-clause-alone : goal.run-requires-clause-alone
run-requires-clause-alone c = starts_alone (λ h. h.bytes.items) _ _ c.in-Ok.run' c.in-Ok.ensures.started

pub returns : goal.returns
returns c =
    let first = c.new-store.ensures in
    let start = c.new-store.result in
    let ran = c.run.new.objects in
    let last = c.finish-report.new.objects in
    let began = granting start.nulls start.short start.table.items in
    let ended = granting last.nulls last.short last.table.items in
    let between = granting ran.nulls ran.short ran.table.items in
    let went = told_on began between ended _ [] c.run.ensures.gone.goes c.finish-report.ensures.goes in
    report_solo _ (IsAmple c.args.nulls) _ _ _ _ _ _ c.run.ensures.turns (omega arith) c.run.ensures.after.bounded c.args.nulls _ _
    (begins c.args.nulls _ _ _ _ first.nulls first.none first.bare c.requires.kinds c.in-Ok.ensures.started c.in-Ok.ensures.sound)
    (fine_before c.args.nulls between ended [] c.finish-report.ensures.goes
    (fine_last c.args.nulls began ended _ first.nulls went (sym c.if-is_short.ensures))).0 _ c.finish-report.ensures
