use Rattle.std.proofs.Common.{rules, ◌≡◌, ◌<◌, ℕ, All, List, length, map, vec_len, refl, sym, ap, subst, ◌∙◌, arith}
use Rattle.std.specs.Int.{div_ceil}
use Rattle.owners_table.specs.Drawing.{NeverWraps, times_drawn}
use Rattle.worker_pool.specs.EachKind.{AreClosed}
use Rattle.worker_pool.specs.declared.worker.Ending.TheVariants.{Through}
use Rattle.ebpf_verify.specs.Subject.{Subject}
use Rattle.object_cache.specs.declared.totals.Totals.{Totals}
use Rattle.owners_table.specs.Owning.{OwnersView, SeatView}
use Rattle.owners_table.specs.Drawing.{TicketsView}
use Rattle.worker_pool.specs.declared.crew.Done.{Done}
use Rattle.worker_pool.specs.declared.crew.Parts.{Parts}
use Rattle.job_list.specs.declared.jobs.Job.{Job}
use Rattle.worker_pool.specs.declared.outcome.ShelfTotals.{ShelfTotals}
use Rattle.worker_pool.specs.declared.answered.Bundle.{Bundle}
use Rattle.worker_pool.specs.Outcomes.{AreIdleAgain, JobsOutcome}
use Rattle.worker_pool.specs.Numbering.{bundles_in}
use Rattle.worker_pool.specs.Places.{bundles_of, counted}
use Rattle.worker_pool.specs.Serving.{AreServed}
use Rattle.worker_pool.proofs.Bundles.{bundles_few}
use Rattle.worker_pool.proofs.Outcoming.{bundles_inside, outcome, placed_once, reports_len}
use Rattle.worker_pool.proofs.pool.settle.Given.{Over}
use Rattle.worker_pool.proofs.pool.settle.Goals.{After-close-2}
use Rattle.worker_pool.proofs.pool.settle.Goals as goal

-- the seats that come back are those that the workers had
again : {L : Type 0} {programs : List Subject} {jobs : List Job} {o : OwnersView} {size : ℕ} {t : TicketsView} {p : Parts L} {done : Done}
    {after : List SeatView} {shelves : List ShelfTotals} {ts : List Totals}
    → (before : List SeatView) → AreServed programs jobs o size t before p done → AreClosed o p.hands p.seats.items after shelves ts → AreIdleAgain o before after
again before s closed = record { all = closed.all ∙ s.seats_all; idle = closed.idle }

-- how many bundles n jobs are
many_are : (count n size jobs : ℕ) → count ≡ div_ceil n size → n ≡ jobs → count ≡ bundles_in size jobs
many_are count n size jobs is same = is ∙ ap (λ (k : ℕ). div_ceil k size) same

-- where the workers went through all bundles, each was drawn once
drawn_once : (g : Over) (c : After-close-2 g) → c.args.done.ending ≡ Through → (x : ℕ)
    → x < bundles_in c.args.room.size (length c.args.given.now.jobs.now) → times_drawn x c.args.parts.drawers.items ≡ 1
drawn_once g c through x below =
    let can = c.requires.left.1 in
    let few = can.few in
    let few_jobs = can.few_jobs in
    let limit = can.limit in
    let tickets = can.tickets in
    let bundles = bundles_few c.args.room.size (length c.args.given.now.jobs.now) can.size.0 in
    let drawers = can.served.drawers_all in
    let fits : NeverWraps c.args.room.tickets.limit c.args.room.tickets.seats = search rules in
    let all : vec_len c.args.parts.drawers ≡ c.args.room.tickets.seats = search rules in
    c.close-2.ensures.each fits all (can.served.through through) x (omega (arith, below, limit))

-- the first part is that what is passed is not too large
pub close-requires : goal.close-requires
close-requires g c =
    let can = c.requires.left.1 in
    let some = can.some in
    let all = can.served.seats_all in (omega arith, (can.made, (can.hands, (search rules, can.served.idle))))

pub gather-lists-requires-clause-none : goal.gather-lists-requires-clause-none
gather-lists-requires-clause-none g c = c.requires.left.1.places_are.0

pub gather-lists-requires-clause-room : goal.gather-lists-requires-clause-room
gather-lists-requires-clause-room g c = omega (arith, many_are _ _ _ _ c.div_ceil-bundles.ensures c.len.ensures, c.requires.left.1.places_are.1)

pub gather-lists-requires-clause-inside : goal.gather-lists-requires-clause-inside
gather-lists-requires-clause-inside g c =
    let through : c.args.done.ending ≡ Through = search rules in
    let inside = bundles_inside _ _ _ _ _ _ _ _ through c.requires.left.1.served in
    subst (λ (n : ℕ). All (λ (b : Bundle). b.number < n) (bundles_of c.args.parts.answered.items)) (sym (many_are _ _ _ _ c.div_ceil-bundles.ensures c.len.ensures)) inside

pub gather-lists-requires-clause-once : goal.gather-lists-requires-clause-once
gather-lists-requires-clause-once g c =
    let through : c.args.done.ending ≡ Through = search rules in
    let each = drawn_once g (goal.at.gather-lists-requires-clause-once g c).After-close-2 through in
    λ x below. placed_once _ _ _ _ _ _ _ _ through c.requires.left.1.served each x (omega (arith, below, many_are _ _ _ _ c.div_ceil-bundles.ensures c.len.ensures))

pub of-requires : goal.of-requires
of-requires g c =
    let can = c.requires.left.1 in
    let through : c.args.done.ending ≡ Through = search rules in
    let each = drawn_once g (goal.at.of-requires g c).After-close-2 through in
    let e = c.gather-lists.ensures in
    let many = many_are _ _ _ _ c.div_ceil-bundles.ensures c.len.ensures in
    c.len-2.ensures ∙ sym (reports_len _ _ _ _ _ _ _ _ through can.served each can.size.0 can.few_jobs
    c.gather-lists.result.items (omega (arith, e.len, c.gather-lists.result.ok.0, many)) (λ x lt. e.there x (omega (arith, lt, many))) e.weighed)

pub returns : goal.returns
returns g c = λ before can.
    let through : c.args.done.ending ≡ Through = search rules in
    let each = drawn_once g (goal.at.returns g c).After-close-2 through in
    let e = c.gather-lists.ensures in
    let many = many_are _ _ _ _ c.div_ceil-bundles.ensures c.len.ensures in
    let made : JobsOutcome = record {
      reports = c.of.result;
      totals = c.close.result.1;
      clashes = c.args.done.clashes;
      shelves = c.close.result.0;
      strays = c.args.done.strays;
      jobs_done = c.count_all.new.counts;
    } in
    let done = outcome _ _ _ _ _ _ _ _ through can.served each can.size.0 can.few_jobs
    c.gather-lists.result.items (omega (arith, e.len, c.gather-lists.result.ok.0, many)) (λ x lt. e.there x (omega (arith, lt, many))) e.weighed
    c.close.new.seats.items c.close.result.0 c.close.result.1 c.close.ensures made c.of.ensures refl refl refl refl
    (c.count_all.ensures ∙ ap (map (λ a. counted a.bundles.items)) c.deref.ensures.value) in
    record { done = done; seats = again before can.served c.close.ensures }
