use Rattle.std.proofs.Common.{◌<◌, ◌∙◌, ap, arith, length}
use Rattle.std.proofs.lemmas.List.{get_or_default}
use Rattle.ebpf_state.specs.References.{forgotten_value}
use Rattle.ebpf_state.specs.declared.value.Abs.TheVariants.{Unset}
use Rattle.ebpf_state.proofs.JoinLists.{changing_none, changing_more, changing_all}
use Rattle.ebpf_state.proofs.state.forget_registers.Goals as goal

pub loop-i-init : goal.loop-i-init
loop-i-init c = changing_none (forgotten_value c.args.call) Unset c.args.registers.now

pub loop-i-preserved : goal.loop-i-preserved
loop-i-preserved c =
    let inside : c.loop-i.i < length c.loop-i.registers = omega (arith, c.loop-i.invariant.whole) in
    changing_more (forgotten_value c.args.call) Unset c.args.registers.now c.loop-i.registers c.loop-i.i c.forget.result inside c.loop-i.invariant (c.forget.ensures ∙ ap (forgotten_value c.args.call) (get_or_default c.loop-i.registers c.loop-i.i _ Unset inside))

pub returns : goal.returns
returns c = changing_all (forgotten_value c.args.call) Unset c.args.registers.now c.loop-i.registers c.loop-i.i (omega (arith, c.loop-i.invariant.whole)) c.loop-i.invariant
