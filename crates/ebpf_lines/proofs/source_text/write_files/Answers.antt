use Rattle.std.proofs.Common.{ap, get_or}
use Rattle.ebpf_explain.proofs.TextLemmas.{no_text, one_text}
use Rattle.ebpf_lines.specs.SourceText.{file_if}
use Rattle.ebpf_lines.proofs.source_text.write_files.Goals as goal

pub loop-slot-init : goal.loop-slot-init
loop-slot-init c = no_text _ _

pub loop-slot-preserved : goal.loop-slot-preserved
loop-slot-preserved c =
    let counted = c.args.counted in
    one_text _ _ _ _ _ _
    (ap (file_if c.args.format counted.name.now counted.lines counted.holding.now (λ k. get_or counted.executed.now k 0)) c.file_begun.ensures)
    c.loop-slot.invariant c.in_ok-write_file.ensures
