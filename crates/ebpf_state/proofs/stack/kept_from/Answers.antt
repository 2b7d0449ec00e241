use Rattle.std.proofs.Common.{◌∙◌, ◌-◌, ◌++◌, List, ap, arith}
use Rattle.std.specs.Prelude.{replicate}
use Rattle.ebpf_state.specs.declared.word.Word.{Word}
use Rattle.ebpf_state.specs.declared.word.Word.TheVariants.{Bytes}
use Rattle.ebpf_state.specs.Words.{all_words}
use Rattle.ebpf_state.proofs.Stacks.{all_words-kept}
use Rattle.ebpf_state.proofs.stack.kept_from.Goals as goal

pub returns-clause-value : goal.returns-clause-value
returns-clause-value c =
    let more = 64 - c.len.result - c.args.number in
    let low = c.in_ok-kept.ensures.items_if_clones_equal (λ y e. e) in
    ap all_words (c.in_ok-extend_from_slice.ensures.items ∙ (ap (λ (ws : List Word). ws ++ c.deref.result.now) low ∙ ap (λ (ws : List Word). replicate more (Bytes 0) ++ ws) c.deref.ensures.value))
    ∙ all_words-kept c.args.words.now.items more (omega (arith, c.len.ensures, c.requires.few, c.requires.below))
