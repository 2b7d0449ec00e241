use Rattle.std.proofs.Common.{◌≡◌, ◌++◌, List, Option, get_or, length, string_bytes, OnOk, subst}
use Rattle.ebpf_explain.specs.StackWords.{texts_below}
use Rattle.ebpf_object_file.specs.declared.lines.Line.{Line}
use Rattle.ebpf_lines.specs.LineCounts.{file_begun}
use Rattle.ebpf_lines.specs.SourceText.{file_if, program_head}
use Rattle.ebpf_lines.proofs.Written.{all_written}
use Rattle.ebpf_lines.proofs.source_text.write_source.Goals as goal

pub returns : goal.returns
returns c =
    let files = λ (holding : List (Option Line)). texts_below (length holding) (λ slot.
    file_if c.args.format c.args.name.now c.args.source.now.lines holding (λ k. get_or c.args.executed.now k 0) (file_begun holding slot)) in
    all_written c.write_files.result (string_bytes c.args.text.now) (string_bytes c.write_program_head.new.text) (string_bytes c.write_files.new.text)
    (program_head c.args.format c.args.name.now) (files c.args.source.now.holding.items) c.in_ok-write_program_head.ensures
    (subst (λ (holding : List (Option Line)). OnOk c.write_files.result (string_bytes c.write_files.new.text ≡ string_bytes c.write_program_head.new.text ++ files holding))
    c.deref.ensures.value c.write_files.ensures)
