use Rattle.std.proofs.Common.{◌≡◌, ◌≤◌, ◌+◌, length, refl, ◌∙◌, arith}
use Rattle.ebpf_host_c.proofs.InTurn.{none_run, context_there, next_ended, length_written, other_written}
use Rattle.ebpf_host_c.proofs.by_fours.run_by_fours.Goals as goal

pub returns-then-limit-clause-ran : goal.returns-then-limit-clause-ran
returns-then-limit-clause-ran g c = none_run _ _

pub fours-init : goal.fours-init
fours-init g c = record { ran = none_run _ _; outs = λ k. refl; unmade = λ k less. refl; all = refl; most = omega arith }

pub run_four_within-requires-clause-contexts : goal.run_four_within-requires-clause-contexts
run_four_within-requires-clause-contexts g c =
    context_there (length c.args.reports.now) _ _ _ (omega (arith, c.fours-test.true, c.fours.invariant.all, c.fours.invariant.most)) c.requires.contexts

pub returns-in_default-clause-ran : goal.returns-in_default-clause-ran
returns-in_default-clause-ran g c = c.fours.invariant.ran

pub returns-in_default-clause-outs : goal.returns-in_default-clause-outs
returns-in_default-clause-outs g c = c.fours.invariant.outs

pub returns-in_default-clause-unmade : goal.returns-in_default-clause-unmade
returns-in_default-clause-unmade g c = c.fours.invariant.unmade

pub fours-preserved : goal.fours-preserved
fours-preserved g c =
    let inv = c.fours.invariant in
    let f = c.in-Ok-run_four_within.ensures.ran in
    let e = c.in-Ok-run_four_within.ended in
    let o = g.O.Objects.store in
    let p = c.args.program.now in
    let xs = c.args.contexts.now in
    let n = c.fours.done in
    let there : n + 4 ≤ length c.fours.reports = omega (arith, c.fours-test.true, inv.most) in
    let l1 : length c.write_at.new.reports ≡ length c.fours.reports = length_written c.write_at.ensures in
    let l2 : length c.write_at-in-fours.new.reports ≡ length c.write_at.new.reports = length_written c.write_at-in-fours.ensures in
    let l3 : length c.write_at-in-fours-2.new.reports ≡ length c.write_at-in-fours.new.reports = length_written c.write_at-in-fours-2.ensures in
    let l4 : length c.write_at-in-fours-3.new.reports ≡ length c.write_at-in-fours-2.new.reports = length_written c.write_at-in-fours-3.ensures in
    let a1 =
    next_ended o p xs c.args.limit n (n + 1) c.fours.reports c.write_at.new.reports e.one (c.args.objects.now, c.args.output.now) (c.fours.objects, c.fours.output) (f.second, c.write_at.new.output) (omega (arith, there))
    (omega arith) inv.ran f.one c.write_at.ensures in
    let a2 =
    next_ended o p xs c.args.limit (n + 1) (n + 2) c.write_at.new.reports c.write_at-in-fours.new.reports e.two (c.args.objects.now, c.args.output.now) (f.second, c.write_at.new.output) (f.third, c.write_at-in-fours.new.output) (omega (arith, there, l1))
    (omega arith) a1 f.two c.write_at-in-fours.ensures in
    let a3 =
    next_ended o p xs c.args.limit (n + 2) (n + 3) c.write_at-in-fours.new.reports c.write_at-in-fours-2.new.reports e.three (c.args.objects.now, c.args.output.now) (f.third, c.write_at-in-fours.new.output) (f.fourth, c.write_at-in-fours-2.new.output) (omega (arith, there, l1, l2))
    (omega arith) a2 f.three c.write_at-in-fours-2.ensures in
    let a4 =
    next_ended o p xs c.args.limit (n + 3) (n + 4) c.write_at-in-fours-2.new.reports c.write_at-in-fours-3.new.reports e.four (c.args.objects.now, c.args.output.now) (f.fourth, c.write_at-in-fours-2.new.output) (c.run_four_within.new.objects, c.write_at-in-fours-3.new.output) (omega (arith, there, l1, l2, l3))
    (omega arith) a3 f.four c.write_at-in-fours-3.ensures in
    record {
      ran = a4;
      outs = λ k. f.four.outs k ∙ f.three.outs k ∙ f.two.outs k ∙ f.one.outs k ∙ inv.outs k;
      unmade = λ k more.
          other_written k (omega (arith, more)) c.write_at-in-fours-3.ensures
          ∙ other_written k (omega (arith, more)) c.write_at-in-fours-2.ensures
          ∙ other_written k (omega (arith, more)) c.write_at-in-fours.ensures
          ∙ other_written k (omega (arith, more)) c.write_at.ensures
          ∙ inv.unmade k (omega (arith, more));
      all = l4 ∙ l3 ∙ l2 ∙ l1 ∙ inv.all;
      most = omega (arith, there, l1, l2, l3, l4);
    }

pub returns-clause-ran : goal.returns-clause-ran
returns-clause-ran g c = c.fours.invariant.ran

pub returns-clause-outs : goal.returns-clause-outs
returns-clause-outs g c = c.fours.invariant.outs

pub returns-clause-unmade : goal.returns-clause-unmade
returns-clause-unmade g c = c.fours.invariant.unmade
