use Rattle.std.proofs.Common.{◌≡◌, ◌<◌, ◌+◌, ◌++◌, ◌∷◌, [], List, Some, length, refl, sym, ap, ◌∙◌, subst, arith}
use Rattle.std.specs.Prelude.{slice_get}
use Rattle.std.proofs.lemmas.List.{length_push}
use Rattle.std.proofs.lemmas.Option.{slice_get_read}
use Rattle.ebpf_cover.specs.declared.counts.Counts.{Counts}
use Rattle.ebpf_cover.proofs.Summing.{AreSumsTo, sums_more}
use Rattle.ebpf_cover.proofs.cover.sum_up.Goals.{After-index-accepted-program}
use Rattle.ebpf_cover.proofs.cover.sum_up.Goals as goal

-- the program and its tally
here : (c : After-index-accepted-program) → slice_get c.args.accepted.now c.summed.program ≡ Some c.index-accepted-program.result
here c =
    let few : c.summed.program < length c.args.tallies.now = c.summed-test.true in
    slice_get_read c.args.accepted.now _ c.summed.program _ refl (omega (arith, few, c.requires.long)) c.index-accepted-program.is

there : (c : After-index-accepted-program) → slice_get c.args.tallies.now c.summed.program ≡ Some c.index-tallies-program.result
there c = slice_get_read c.args.tallies.now _ c.summed.program _ refl c.summed-test.true c.index-tallies-program.is

pub counts-requires : goal.counts-requires
counts-requires c =
    let h = (goal.at.counts-requires c).After-index-accepted-program in
    c.requires.each c.summed.program c.index-accepted-program.result c.index-tallies-program.result (here h) (there h)

pub summed-preserved : goal.summed-preserved
summed-preserved c =
    let h = (goal.at.summed-preserved c).After-index-accepted-program in
    let counts = c.in_ok-counts.field-0 in
    let e = c.in_ok-counts.ensures in
    let was = c.summed.invariant in
    let pushed : c.push.new.self.items ≡ c.summed.all.items ++ counts ∷ [] = c.in_ok-push.ensures.items in record {
      long = ap length pushed ∙ length_push c.summed.all.items counts ∙ ap (λ n. n + 1) was.long;
      each = subst (λ (cs : List Counts). AreSumsTo c.args.accepted.now c.args.tallies.now cs) (sym pushed)
          (sums_more _ _ c.summed.all.items _ _ counts c.summed.program was.long (here h) (there h)
          (record { long = e.long; executed = e.executed; taken = e.taken }) was.each);
    }

pub returns : goal.returns
returns c = record {
  long = omega (arith, c.summed.invariant.long, c.summed-test.false, c.summed.auto.program-end);
  each = c.summed.invariant.each;
}
