use Rattle.ebpf_state.proofs.Stacks.{all_words-set}
use Rattle.ebpf_state.proofs.stack.put_word.Goals as goal

pub returns-clause-value : goal.returns-clause-value
returns-clause-value c = all_words-set c.args.words.now c.args.number c.args.value c.requires.kept
