use Rattle.std.proofs.Common.{arith, sym, ◌∙◌}
use Rattle.ebpf_object_file.proofs.Texts.{trimmed_here, trimmed_all}
use Rattle.ebpf_object_file.proofs.lines.trimmed.Goals as goal

pub returns-then-not-is_blank : goal.returns-then-not-is_blank
returns-then-not-is_blank c =
    trimmed_here c.args.text.now c.loop-start.start c.loop-start-test.true c.loop-start.invariant (sym c.is_blank.ensures ∙ c.if-not-is_blank.true)

pub returns : goal.returns
returns c = trimmed_all c.args.text.now c.loop-start.start (omega arith) c.loop-start.invariant
