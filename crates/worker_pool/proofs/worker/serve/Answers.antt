use Rattle.std.proofs.Common.{rules, ◌≡◌, All, List, [], ◌∷◌, ◌++◌, length, Bool, true, false, sym, ap, subst, ◌∙◌, arith}
use Rattle.std.specs.Prelude.{MatchBool}
use Rattle.std.proofs.lemmas.List.Elements.{All-append, All-push}
use Rattle.owners_table.specs.Drawing.{TicketView, IsOf, times}
use Rattle.worker_pool.specs.declared.answered.Bundle.{Bundle}
use Rattle.worker_pool.specs.Numbering.{IsWhole, Numbered, told_by, told_of}
use Rattle.worker_pool.specs.Working.{Answers}
use Rattle.worker_pool.proofs.Sums.{answered_all}
use Rattle.worker_pool.proofs.Bundles.{drawn_more, drawn_past, times_more}
use Rattle.worker_pool.proofs.NumberingLemmas.{told_more}
use Rattle.worker_pool.proofs.worker.serve.Goals as goal

-- what is said of a seat that was not answered `None` before
not_passed : (passed : Bool) (A B : Type 0) → passed ≡ false → MatchBool passed A B → B
not_passed false A B going told = told
not_passed true A B going told = absurd (cc)

pub loop-preserved : goal.loop-preserved
loop-preserved g c =
    let i = c.loop.invariant in
    let some = c.in-Some-draw.ensures.some in
    let a = c.answer_bundle-done.ensures.answered in
    let size = c.args.shared.now.size in
    let count = length c.args.shared.now.jobs.now in
    let b : Bundle = record { number = c.in-Some-draw.number; reports = c.answer_bundle-done.new.reports } in
    let before = c.loop.answered.bundles.items in
    let pushed : c.push_reserved.new.self.items ≡ before ++ b ∷ [] = search rules in
    let told = told_more size c.loop.answered (record { bundles = c.push_reserved.new.self }) b pushed in
    let whole : IsWhole size count b = record { inside = search rules; all = search rules } in
    let good = Answers c.args.shared.now.programs.now c.args.shared.now.jobs.now in record {
      even = c.answer_bundle-done.ensures.even;
      table = subst (λ (s : TicketView). IsOf c.args.shared.now.tickets.now s) (sym some.2) i.table;
      going = ap (λ (s : TicketView). s.passed) some.2 ∙ i.going;
      drawn = λ x below.
          let drawn = ap (λ (s : TicketView). times x s.drawn) some.2 ∙ drawn_more x c.loop.ticket.drawn c.in-Some-draw.number in
          omega (arith, drawn, i.drawn x below, times_more x before _ b pushed);
      good = subst (λ (l : List Numbered). All good l) (sym told) (All-append good _ _ i.good a.good);
      goes = answered_all _ _ _ (told_by size c.loop.answered) _ (told_of size b) told i.goes a.goes;
      whole = subst (All (IsWhole size count)) (sym pushed) (All-push (IsWhole size count) before b i.whole whole);
    }

pub returns-in_default-draw-clause-drawn : goal.returns-in_default-draw-clause-drawn
returns-in_default-draw-clause-drawn g c =
    let i = c.loop.invariant in
    let limit = c.args.shared.now.limit in
    let late = not_passed c.loop.ticket.passed _ _ i.going c.in_default-draw.ensures.none in (
      ap (λ (s : TicketView). s.passed) late.2,
      λ x below.
          let past = drawn_past late.0 x (omega (arith, below, late.1, limit)) in
          let drawn = ap (λ (s : TicketView). times x s.drawn) late.2 ∙ drawn_more x c.loop.ticket.drawn late.0 in
          omega (arith, drawn, past, i.drawn x below),
    )

pub returns-in_default-done-clause-good : goal.returns-in_default-done-clause-good
returns-in_default-done-clause-good g c =
    let b : Bundle = record { number = c.in-Some-draw.number; reports = c.answer_bundle-done.new.reports } in
    let pushed : c.push_reserved.new.self.items ≡ c.loop.answered.bundles.items ++ b ∷ [] = search rules in
    let told = told_more c.args.shared.now.size c.loop.answered (record { bundles = c.push_reserved.new.self }) b pushed in
    let good = Answers c.args.shared.now.programs.now c.args.shared.now.jobs.now in
    subst (λ (l : List Numbered). All good l) (sym told) (All-append good _ _ c.loop.invariant.good c.answer_bundle-done.ensures.answered.good)
