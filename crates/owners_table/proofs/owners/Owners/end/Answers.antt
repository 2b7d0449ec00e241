use Rattle.std.proofs.Common.{◌≡◌, ◌∙◌, length, rules, ap, arith}
use Rattle.std.specs.Slots.{slots_items}
use Rattle.owners_table.specs.Owning.{OwnersView}
use Rattle.owners_table.specs.Place.{words_in}
use Rattle.owners_table.proofs.Counting.{all_held, counts_other, counts_run, none_held, run_place, some_held}
use Rattle.owners_table.proofs.owners.Owners.end.Goals.{then-word-ge-WORDS_OF_A_RUN, else-word-ge-WORDS_OF_A_RUN}
use Rattle.owners_table.proofs.owners.Owners.end.Goals as goal

pub loop-at-preserved : goal.loop-at-preserved
loop-at-preserved c =
    let i = c.loop-at.invariant in
    let ws = slots_items c.ended-closed.result.words in
    elim c.if-word-ge-WORDS_OF_A_RUN.branch [
      | then-word-ge-WORDS_OF_A_RUN w ↦ record {
        counted = w.owned-is ∙ counts_run c.loop-at.at c.loop-at.owned c.word.result ws i.counted c.word.ensures w.if-word-ge-WORDS_OF_A_RUN.true;
        few = omega (arith, w.owned-is, i.few);
      }
      | else-word-ge-WORDS_OF_A_RUN w ↦ record {
        counted = w.owned-is ∙ counts_other c.loop-at.at c.loop-at.owned c.word.result ws i.counted c.word.ensures w.if-word-ge-WORDS_OF_A_RUN.false;
        few = omega (arith, w.owned-is, i.few);
      }
    ]

pub overflow_add-owned : goal.overflow_add-owned
overflow_add-owned c =
    let slots = ap (λ (o : OwnersView). o.slots) c.self.view_is in
    let within = c.loop-at-test.true in
    let words = c.words_in-words.ensures in
    let run = run_place c.args.self c.args.seats.items (slots_items c.ended-closed.result.words) c.ended-closed.ensures.left c.loop-at.at c.word.result
    (omega (arith, slots, c.self.ranges)) (omega (arith, words, ap words_in slots, within)) c.word.ensures c.if-word-ge-WORDS_OF_A_RUN.true in
    omega (arith, run, c.loop-at.invariant.few)

pub returns-clause-some : goal.returns-clause-some
returns-clause-some c =
    some_held c.args.self c.args.seats.items (slots_items c.ended-closed.result.words) c.ended-closed.ensures.left c.loop-at.at c.loop-at.owned
    (omega (arith, c.words_in-words.ensures, ap (λ (o : OwnersView). words_in o.slots) c.self.view_is, c.loop-at-test.false)) c.loop-at.invariant.counted

pub returns-clause-all : goal.returns-clause-all
returns-clause-all c whole =
    let all : length c.args.seats.items ≡ c.args.self.seats = search rules in
    all_held c.args.self c.args.seats.items (slots_items c.ended-closed.result.words) c.ended-closed.ensures.left c.loop-at.at c.loop-at.owned
    (omega (arith, c.words_in-words.ensures, ap (λ (o : OwnersView). words_in o.slots) c.self.view_is, c.loop-at-test.false)) c.loop-at.invariant.counted all

pub returns-clause-none : goal.returns-clause-none
returns-clause-none c whole none =
    let all : length c.args.seats.items ≡ c.args.self.seats = search rules in
    none_held c.args.self c.args.seats.items (slots_items c.ended-closed.result.words) c.ended-closed.ensures.left c.loop-at.at c.loop-at.owned
    (omega (arith, c.words_in-words.ensures, ap (λ (o : OwnersView). words_in o.slots) c.self.view_is, c.loop-at-test.false)) c.loop-at.invariant.counted all none
