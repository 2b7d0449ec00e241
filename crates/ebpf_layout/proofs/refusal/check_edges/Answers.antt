use Rattle.std.proofs.Common.{◌≡◌, length, refl, subst, arith, below_more}
use Rattle.ebpf_layout.proofs.Reaching.{lowest_fault, all_fine, AreFine}
use Rattle.ebpf_layout.proofs.refusal.check_edges.Goals as goal

pub loop-slot-init : goal.loop-slot-init
loop-slot-init c k lt = absurd (omega arith)

pub loop-slot-preserved : goal.loop-slot-preserved
loop-slot-preserved c = below_more _ _ c.loop-slot.invariant (c.in_default.ensures.none refl)

pub returns-in-Some-clause-refused : goal.returns-in-Some-clause-refused
returns-in-Some-clause-refused c =
    let found = c.in-Some.ensures.found in
    lowest_fault c.args.program.now c.args.order.now.marks.items c.args.order.now.slots.items c.loop-slot.slot c.in-Some.code c.requires c.loop-slot.invariant
    found.0 found.1

pub returns-clause-fine : goal.returns-clause-fine
returns-clause-fine c slot reached =
    let p = c.args.program.now in
    let all : c.loop-slot.slot ≡ length p = omega (arith, c.slots-slot-end.ensures.value) in
    all_fine p c.args.order.now.marks.items c.args.order.now.slots.items slot c.requires
    (subst (AreFine p c.args.order.now.marks.items) all c.loop-slot.invariant) reached
