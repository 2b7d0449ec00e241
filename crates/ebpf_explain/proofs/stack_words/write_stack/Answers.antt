use Rattle.std.proofs.Common.{ap}
use Rattle.ebpf_state.specs.declared.word.Word.{Word}
use Rattle.ebpf_explain.specs.StackWords.{stack_word}
use Rattle.ebpf_explain.proofs.TextLemmas.{no_text, one_text}
use Rattle.ebpf_explain.proofs.stack_words.write_stack.Goals as goal

pub loop-number-init : goal.loop-number-init
loop-number-init c = no_text _ _

pub loop-number-preserved : goal.loop-number-preserved
loop-number-preserved c =
    one_text _ _ _ _ _ _ (ap (λ (word : Word). stack_word c.loop-number.number word) c.word.ensures.value) c.loop-number.invariant c.in_ok-write_word.ensures
