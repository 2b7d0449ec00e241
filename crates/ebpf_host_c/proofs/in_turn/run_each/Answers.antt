use Rattle.std.proofs.Common.{◌<◌, length, refl, ◌∙◌, arith}
use Rattle.ebpf_host_c.proofs.InTurn.{context_there, next_ended, length_written, other_written}
use Rattle.ebpf_host_c.proofs.in_turn.run_each.Goals as goal

pub runs-init : goal.runs-init
runs-init g c = record {
  ran = λ first ran. ran;
  outs = λ k. refl;
  unmade = λ k less. refl;
  all = refl;
}

pub context_at-context-requires : goal.context_at-context-requires
context_at-context-requires g c =
    context_there (length c.args.reports.now) _ _ _ (omega (arith, c.runs-test.true, c.runs.invariant.all)) c.requires.contexts

pub runs-preserved : goal.runs-preserved
runs-preserved g c =
    let told = c.in-Ok.ensures in
    let w = c.write_at.ensures in
    let there : c.runs.number < length c.runs.reports = omega (arith, c.runs-test.true, c.runs.invariant.all) in
    record {
      ran = λ first ran.
          next_ended g.O.Objects.store c.args.program.now c.args.contexts.now c.args.limit c.runs.number _ c.runs.reports _ c.in-Ok.ended first
          (c.runs.objects, c.runs.output) _ there refl (c.runs.invariant.ran first ran)
          (rw (← c.context_at-context.ensures)
          (record { report = told.report; goes = told.goes; outs = c.run_within.ensures.outs; found = told.found; shelves = told.shelves })) w;
      outs = λ k. c.run_within.ensures.outs k ∙ c.runs.invariant.outs k;
      unmade = λ k more. other_written k (omega (arith, more)) w ∙ c.runs.invariant.unmade k (omega (arith, more));
      all = length_written w ∙ c.runs.invariant.all;
    }
