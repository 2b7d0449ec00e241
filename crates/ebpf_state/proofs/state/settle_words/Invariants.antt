use Rattle.std.specs.Prelude.{All}
use Rattle.ebpf_state.specs.References.{settled_word}
use Rattle.ebpf_state.specs.Words.{IsProperWord}
use Rattle.ebpf_state.specs.declared.word.Word.TheVariants.{Spill}
use Rattle.ebpf_state.specs.declared.value.Abs.TheVariants.{Unset}
use Rattle.ebpf_state.proofs.JoinLists.{IsChanging}
use Rattle.ebpf_state.proofs.state.settle_words.Given as goal

abbrev pub invariant-loop-i : goal.invariant-loop-i
invariant-loop-i l = IsChanging (settled_word l.fn.call l.fn.null) (Spill Unset) l.fn.words.items l.words.items l.i × All IsProperWord l.words.items
