use Rattle.std.proofs.Common.{◌<◌, ◌∙◌, ap₂, arith, length, sym}
use Rattle.std.proofs.lemmas.List.{get_or_default}
use Rattle.ebpf_state.specs.Abstract.{joined_value}
use Rattle.ebpf_state.specs.declared.value.Abs.TheVariants.{Unset}
use Rattle.ebpf_state.proofs.JoinLists.{joining_none, joining_more, joining_all}
use Rattle.ebpf_state.proofs.state.join_registers.Goals as goal

pub loop-i-init : goal.loop-i-init
loop-i-init c = joining_none joined_value Unset c.args.left.now c.args.right.now (c.told-left ∙ sym c.told-right)

pub loop-i-preserved : goal.loop-i-preserved
loop-i-preserved c =
    let here : c.loop-i.i < length c.loop-i.left = omega (arith, c.loop-i.invariant.whole) in
    let there : c.loop-i.i < length c.args.right.now = omega (arith, here, c.loop-i.invariant.whole, c.loop-i.invariant.same) in
    joining_more joined_value Unset c.args.left.now c.args.right.now c.loop-i.left c.loop-i.i c.join_with.new.self
    (omega arith) c.loop-i.invariant (c.join_with.ensures ∙ ap₂ joined_value
    (get_or_default c.loop-i.left c.loop-i.i _ Unset here) (get_or_default c.args.right.now c.loop-i.i _ Unset there))

pub returns : goal.returns
returns c = joining_all joined_value Unset c.args.left.now c.args.right.now c.loop-i.left c.loop-i.i (omega arith) c.loop-i.invariant
