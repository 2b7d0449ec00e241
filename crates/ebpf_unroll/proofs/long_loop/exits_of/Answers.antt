use Rattle.std.proofs.Common.{◌∙◌, All, ap, sym, subst}
use Rattle.std.proofs.lemmas.List.Elements.{All-push}
use Rattle.ebpf_unroll.specs.declared.long_loop.LoopExit.{LoopExit}
use Rattle.ebpf_unroll.specs.Branches.{IsBranch}
use Rattle.ebpf_unroll.proofs.long_loop.exits_of.Goals as goal
use Rattle.ebpf_unroll.proofs.long_loop.exits_of.Goals.{in-Some+in_ok-push, in_default}

pub loop-slot-preserved : goal.loop-slot-preserved
loop-slot-preserved c =
    let P : LoopExit → Type 0 = λ e. IsBranch c.args.program.now e.slot in
    elim c.match-way_out.branch [
      | in-Some+in_ok-push w ↦ subst (All P) (sym (ap (λ v. v.items) w.exits-is ∙ w.in_ok-push.ensures.items)) (All-push P c.loop-slot.exits.items w.in-Some.exit c.loop-slot.invariant w.in-Some.ensures)
      | in_default w ↦ subst (λ v. All P v.items) (sym w.exits-is) c.loop-slot.invariant
    ]
