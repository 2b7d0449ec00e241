use Rattle.std.specs.List.{flat_map}
use Rattle.ebpf_explain.specs.Registers.{all_registers, known_register}
use Rattle.ebpf_explain.specs.StackWords.{texts_below, known_word}
use Rattle.ebpf_explain.proofs.TextLemmas.{told_third}
use Rattle.ebpf_explain.proofs.known.write_known.Goals as goal

pub returns : goal.returns
returns c = told_third _ _ _ _ _ (flat_map (known_register c.args.state.now) all_registers) (texts_below 64 (known_word c.args.state.now.words)) _ _
    c.in_ok-write_registers.ensures c.in_ok-write_stack.ensures (cc) c.write_references.ensures
