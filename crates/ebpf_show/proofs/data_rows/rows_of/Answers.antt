use Rattle.std.proofs.Common.{◌++◌, ℕ, List, ap, sym, ◌∙◌}
use Rattle.ebpf_object_file.specs.DataParts.{part_at}
use Rattle.ebpf_show.specs.DataRows.{part_row}
use Rattle.ebpf_show.proofs.DataRows.{rows_more}
use Rattle.ebpf_show.proofs.data_rows.rows_of.Goals as goal

pub loop-part-preserved : goal.loop-part-preserved
loop-part-preserved c =
    let f = c.args.names.now.functions in
    let parts = c.args.parts.now in
    let k = c.loop-part.part-index in
    c.in_ok-write_part.ensures ∙ ap (λ (b : List ℕ). b ++ part_row c.args.format f c.args.begin (part_at parts k)) c.loop-part.invariant
    ∙ sym (rows_more c.args.format f c.args.begin parts k c.loop-part-test.true)
