use Rattle.std.proofs.Common.{ap}
use Rattle.ebpf_explain.proofs.TextLemmas.{no_text, one_text}
use Rattle.ebpf_lines.specs.Traced.{trace_of}
use Rattle.ebpf_lines.specs.Tracefile.{file_section}
use Rattle.ebpf_lines.proofs.tracefile.write_sections.Goals as goal

pub loop-slot-init : goal.loop-slot-init
loop-slot-init c = no_text _ _

pub loop-slot-preserved : goal.loop-slot-preserved
loop-slot-preserved c =
    one_text _ _ _ _ _ _ (ap (file_section (trace_of c.args.traced) c.loop-slot.slot) c.file_begun.ensures) c.loop-slot.invariant c.in_ok-write_section.ensures
