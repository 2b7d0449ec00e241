use Rattle.std.proofs.Common.{string_bytes}
use Rattle.ebpf_flow.specs.declared.fault.FlowCode.TheVariants.{FallsOffEnd, Unreachable}
use Rattle.ebpf_explain.specs.FlowSentences.{flow_words}
use Rattle.ebpf_explain.proofs.TextLemmas.{pushed}
use Rattle.ebpf_explain.proofs.flow_sentence.write_words.Goals as goal

pub returns-in-FallsOffEnd : goal.returns-in-FallsOffEnd
returns-in-FallsOffEnd c = rw c.in-FallsOffEnd.is
    (pushed _ (string_bytes c.args.text.now) _ (flow_words c.args.insn.now c.args.slots c.args.loops FallsOffEnd) c.push_str-in-FallsOffEnd.ensures.bytes)

pub returns-in-Unreachable : goal.returns-in-Unreachable
returns-in-Unreachable c = rw c.in-Unreachable.is
    (pushed _ (string_bytes c.args.text.now) _ (flow_words c.args.insn.now c.args.slots c.args.loops Unreachable) c.push_str-in-Unreachable.ensures.bytes)
