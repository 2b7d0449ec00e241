use Rattle.std.proofs.Common.{arith}
use Rattle.ebpf_state.specs.Words.{joined_word}
use Rattle.ebpf_state.specs.declared.word.Word.TheVariants.{Spill}
use Rattle.ebpf_state.specs.declared.value.Abs.TheVariants.{Unset}
use Rattle.ebpf_state.proofs.JoinLists.{joining_none, joining_all}
use Rattle.ebpf_state.proofs.state.join_each.Goals as goal

pub loop-i-init : goal.loop-i-init
loop-i-init c = (joining_none joined_word (Spill Unset) c.args.here.now c.args.there.now c.requires.same, c.requires.proper)

pub returns-clause-value : goal.returns-clause-value
returns-clause-value c = joining_all joined_word (Spill Unset) c.args.here.now c.args.there.now c.loop-i.here c.loop-i.i (omega (arith, c.loop-i.invariant.0.whole)) c.loop-i.invariant.0
