use Rattle.std.specs.Prelude.{All}
use Rattle.ebpf_state.specs.Words.{joined_word, IsProperWord}
use Rattle.ebpf_state.specs.declared.word.Word.TheVariants.{Spill}
use Rattle.ebpf_state.specs.declared.value.Abs.TheVariants.{Unset}
use Rattle.ebpf_state.proofs.JoinLists.{IsJoining}
use Rattle.ebpf_state.proofs.state.join_each.Given as goal

abbrev pub invariant-loop-i : goal.invariant-loop-i
invariant-loop-i l = IsJoining joined_word (Spill Unset) l.fn.here l.fn.there l.here l.i × All IsProperWord l.here
