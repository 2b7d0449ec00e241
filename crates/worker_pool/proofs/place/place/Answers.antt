use Rattle.std.proofs.Common.{◌<◌, ◌++◌, All, List, ap, subst, sym, ◌∙◌, append-nil, arith, length}
use Rattle.std.specs.Prelude.{vec_len}
use Rattle.std.proofs.lemmas.List.{length-set, nil_from_length}
use Rattle.owners_table.proofs.Joining.{all_front, all_last}
use Rattle.worker_pool.specs.declared.answered.Bundle.{Bundle}
use Rattle.job_list.specs.ReportLists.{Kept}
use Rattle.worker_pool.specs.Places.{ArePlaced}
use Rattle.worker_pool.proofs.Placing.{one_of_theirs}
use Rattle.worker_pool.proofs.place.place.Goals as goal

pub put-requires : goal.put-requires
put-requires c =
    let i = c.loop-number.invariant in
    let inside = λ (b : Bundle). b.number < vec_len c.args.places.now in
    let last = all_last inside c.pop.new.self.items c.in-Some.field-0 (subst (All inside) c.in-Some.ensures.items i.inside) in
    omega (arith, last, i.len, c.in-Some.number-is)

pub loop-number-preserved : goal.loop-number-preserved
loop-number-preserved c =
    let i = c.loop-number.invariant in
    let inside = λ (b : Bundle). b.number < vec_len c.args.places.now in
    let n = vec_len c.args.places.now in
    let was = c.args.places.now.items in
    let theirs = c.args.bundles.items in
    let rest = c.pop.new.self.items in
    let b = c.in-Some.field-0 in
    let long = ap length c.put.ensures ∙ length-set c.loop-number.places.items _ _ in record {
      len = omega (arith, long, c.put.new.places.ok.0, c.loop-number.places.ok.0, i.len);
      inside = all_front inside rest b (subst (All inside) c.in-Some.ensures.items i.inside);
      placed = subst (λ (l : List Kept). (all others : List Bundle) → ArePlaced n all was (others ++ theirs) → ArePlaced n all l (others ++ rest)) (sym c.put.ensures)
          (one_of_theirs n theirs c.loop-number.bundles.items rest was c.loop-number.places.items b c.in-Some.ensures.items i.placed);
    }

pub returns-clause-placed : goal.returns-clause-placed
returns-clause-placed c = λ all others start.
    let n = vec_len c.args.places.now in
    let places = c.loop-number.places.items in
    let none = nil_from_length c.loop-number.bundles.items (omega (arith, c.in_default.ensures.cases.0, c.loop-number.bundles.ok.0)) in
    let done = subst (λ (l : List Bundle). ArePlaced n all places (others ++ l)) none (c.loop-number.invariant.placed all others start) in
    subst (ArePlaced n all places) (append-nil others) done
