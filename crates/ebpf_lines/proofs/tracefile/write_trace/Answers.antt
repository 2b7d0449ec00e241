use Rattle.std.proofs.Common.{◌≡◌, ◌++◌, List, Option, get_or, string_bytes, OnOk, subst}
use Rattle.ebpf_object_file.specs.declared.lines.Line.{Line}
use Rattle.ebpf_lines.specs.Traced.{trace_by}
use Rattle.ebpf_lines.specs.Tracefile.{trace_sections}
use Rattle.ebpf_lines.proofs.tracefile.write_trace.Goals as goal

pub returns : goal.returns
returns c =
    let t = trace_by c.args.source.now (λ k. get_or c.args.executed.now k 0) (λ k. get_or c.args.taken.now k 0) c.args.program.now in
    subst (λ (lines : List (Option Line)). OnOk c.write_sections.result (string_bytes c.write_sections.new.text ≡ string_bytes c.args.text.now ++ trace_sections (record t { holding = lines })))
    c.deref.ensures.value c.write_sections.ensures
