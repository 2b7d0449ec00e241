use Rattle.std.proofs.Common.{◌<◌, ◌-◌, length, sym, ◌∙◌, arith}
use Rattle.ebpf_layout.proofs.Placed.{order_inside, some_below}
use Rattle.ebpf_layout.proofs.placing.before_last.Goals as goal

pub returns-clause-inside : goal.returns-clause-inside
returns-clause-inside c =
    let p = c.args.program.now in
    let o = c.args.order.now in
    let last = c.in_ok-last.last in
    let at = rw c.deref.ensures.value at (sym c.last.ensures.value ∙ sym c.in_ok-last.ensures) in
    let inside : last < length p = order_inside p o.marks.items o.slots.items (length o.slots.items - 1) last c.requires at in
    some_below c.before-2.result last (length p) (omega (arith, inside)) c.before-2.ensures.lower
