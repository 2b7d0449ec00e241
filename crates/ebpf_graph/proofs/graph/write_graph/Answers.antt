use Rattle.std.proofs.Common.{ℕ, Bool, Option, length, string_bytes, ◌++◌, ◌∙◌}
use Rattle.ebpf_explain.specs.StackWords.{texts_below}
use Rattle.ebpf_explain.proofs.TextLemmas.{pushed_third}
use Rattle.ebpf_graph.specs.Graph.{slot_graph}
use Rattle.ebpf_graph.proofs.graph.write_graph.Goals as goal

pub returns : goal.returns
returns c =
    let trace = c.args.trace.now in
    let text : Bool → Option ℕ → _ = λ states refused. string_bytes c.push_str.new.self ++ texts_below (length trace.flowed.now) (slot_graph states trace.flowed.now trace.entries.items trace.kinds.now refused) in
    pushed_third _ _ _ _ _ _ _ _ c.in_ok-push_str.ensures.bytes
    (c.in_ok-write_blocks.ensures ∙ (λ n. text (c.in_ok-drawn.ensures.states n) (c.in_ok-drawn.ensures.refused n))) c.push_str-2.ensures.bytes
