use Rattle.std.proofs.Common.{◌≡◌, true, length, subst, arith, rules, below_more}
use Rattle.ebpf_unroll.proofs.Leading.{AreFine, all_fine}
use Rattle.ebpf_unroll.proofs.check.is_unrolled.Goals as goal

pub loop-at-preserved : goal.loop-at-preserved
loop-at-preserved c =
    let fine : c.leads_well.result ≡ true = search rules in
    below_more _ _ c.loop-at.invariant (c.leads_well.ensures fine)

pub returns : goal.returns
returns c same =
    let yes : c.is_copy_of.result ≡ true = search rules in
    let all : c.loop-at.at ≡ length c.args.of.now = omega (arith, c.loop-at.auto.at-end, c.loop-at-test.false) in
    all_fine c.args.old.now c.args.new.now c.args.of.now (c.is_copy_of.ensures yes) c.requires.same
    (subst (AreFine c.args.old.now c.args.new.now c.args.of.now) all c.loop-at.invariant)
