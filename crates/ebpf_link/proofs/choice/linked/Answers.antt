use Rattle.std.proofs.Common.{◌≡◌, ℕ, subst, arith}
use Rattle.ebpf_link.specs.Choice.{Wanted, wanted, IsTried}
use Rattle.ebpf_link.proofs.Chosen.{chosen}
use Rattle.ebpf_link.proofs.choice.linked.Goals as goal

pub returns-clause-linked : goal.returns-clause-linked
returns-clause-linked c =
    let w : Wanted = wanted c.args.program.now c.args.offsets.now c.args.declared c.args.decl c.args.kinds.now in
    let all : c.loop-number.number ≡ 4 = omega (arith, c.loop-number-test.false) in
    chosen w c.loop-number.refused c.ok_or.result (subst (λ (n : ℕ). IsTried w n c.loop-number.refused) all c.loop-number.invariant.tried) c.ok_or.ensures.value
