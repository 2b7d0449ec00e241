use Rattle.std.proofs.Common.{None, Some, ◌∙◌, arith}
use Rattle.std.proofs.lemmas.Str.Pattern.{strip_suffix_char}
use Rattle.ebpf_graph.proofs.LineLemmas.{ends_left, is_ended, left_written, unended}
use Rattle.ebpf_graph.proofs.node.write_label_line.Goals as goal

pub returns-in-Some : goal.returns-in-Some
returns-in-Some c =
    let cut = strip_suffix_char 10 c.as_str.result.now (Some c.in-Some.words) c.in-Some.ensures.cases (omega arith) in
    let is = c.as_str.ensures.value ∙ c.in_ok-line.ensures in
    left_written _ _ _ _ c.in-Some.words.now _ c.in_ok-push_str-in-Some.ensures.bytes
    (ends_left c.as_str.result.now c.in-Some.words.now c.args.slot c.args.insn.now is cut) c.push_str-in-Some.ensures.bytes

pub returns : goal.returns
returns c =
    let never = strip_suffix_char 10 c.as_str.result.now None c.in-None.ensures.cases (omega arith) in
    absurd (never (unended c.args.slot c.args.insn.now) (is_ended c.as_str.result.now c.args.slot c.args.insn.now (c.as_str.ensures.value ∙ c.in_ok-line.ensures)))
