use Rattle.std.proofs.Common.{◌++◌, ◌∙◌, ℕ, List, ap}
use Rattle.ebpf_forward.specs.Lines.{lines_of}
use Rattle.ebpf_host.proofs.unrolled.stopped.Goals as goal

pub returns : goal.returns
returns c = record {
  fault = c.args.fault;
  is = c.requires.fault;
  why = c.in_ok-why.why;
  says = c.in_ok-why.ensures;
  told = record {
    code_is = c.code_of.ensures;
    slot_is = c.slot_named.ensures;
    given_is = c.slot.ensures;
    sentence_is = c.in_ok-write_lines.ensures ∙ ap (λ (text : List ℕ). text ++ lines_of c.in_ok-why.why) c.new-sentence.ensures.bytes;
  };
}
