use Rattle.std.proofs.Common.{◌≡◌, false, sym, ◌∙◌, arith}
use Rattle.std.proofs.lemmas.List.Elements.{All-more}
use Rattle.ebpf_reader.specs.Words.{is_end}
use Rattle.ebpf_reader.proofs.words.word_length.Goals as goal

pub past_visible-i-requires-in-loop-i-clause-before : goal.past_visible-i-requires-in-loop-i-clause-before
past_visible-i-requires-in-loop-i-clause-before c =
    All-more (λ c. is_end c ≡ false) c.args.text.now c.loop-i.i 0 (omega arith) c.loop-i.invariant.1 (sym c.ends_word.ensures ∙ c.if-not-ends_word.true)
