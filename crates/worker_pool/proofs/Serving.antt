-- What is left of the workers together, from what each did.
use Rattle.std.proofs.Common.{◌≡◌, ◌≢◌, ◌+◌, ℕ, true, All, List, length, map, reverse, slice_index_or, sym, ap, subst, ◌∙◌, arith}
use Rattle.std.specs.Prelude.{sum_by}
use Rattle.ebpf_verify.specs.Subject.{Subject}
use Rattle.owners_table.specs.Owning.{OwnersView, SeatView}
use Rattle.owners_table.specs.Drawing.{TicketsView, IsOf, times}
use Rattle.worker_pool.specs.EachKind.{all_allocs, all_nulls, all_gets, IsEven}
use Rattle.worker_pool.specs.declared.worker.Ending.TheVariants.{Through, OutOfMemory}
use Rattle.job_list.specs.declared.jobs.Job.{Job}
use Rattle.worker_pool.specs.declared.answered.Answered.{Answered}
use Rattle.worker_pool.specs.Numbering.{IsWhole, Numbered, bundles_in, times_of, told_by}
use Rattle.worker_pool.specs.declared.worker.Worker.{Worker}
use Rattle.worker_pool.specs.declared.hands.Tools.{Tools}
use Rattle.worker_pool.specs.declared.crew.Parts.{Parts}
use Rattle.worker_pool.specs.declared.crew.Done.{Done}
use Rattle.worker_pool.specs.Bundles.{AreAsDrawn}
use Rattle.ebpf_owned.specs.Claims.{lost}
use Rattle.worker_pool.specs.Crews.{AreDismissed, IsBack, tools_or, tools_in, hands_in, seat_in, clashes_in, strays_in}
use Rattle.worker_pool.specs.Outcomes.{IsIdle}
use Rattle.worker_pool.specs.Places.{bundles_of}
use Rattle.worker_pool.specs.Serving.{AreServed, all_allocs as all_free_allocs, all_nulls as all_free_nulls, all_gets as all_free_gets, reports_of}
use Rattle.worker_pool.specs.Working.{IsFresh, IsDone, AreDone, Answers, HasDrawn, granted_by, refused_by, fetched_by}
use Rattle.worker_pool.proofs.Bundles.{one_if}
use Rattle.worker_pool.proofs.EachKind.{all_even, sum_allocs, sum_gets, sum_nulls}
use Rattle.worker_pool.proofs.Flat.{all_flat, sum_flat}
use Rattle.worker_pool.proofs.Turned.{sum_turned, sum_mapped, all_mapped, any_also, as_many}
use Rattle.worker_pool.proofs.Shares.{sum_same, sum_two, sum_two_less, sum_grown, all_by_index, part_sum, part_all, part_any, part_len, drawn_by}
use Rattle.worker_pool.proofs.Shares.{passed_by, through_not_out}

module _ {L : Type 0} (programs : List Subject) (jobs : List Job) (o : OwnersView) (size : ℕ) (t : TicketsView) where
  abbrev allocs_in : Worker L → ℕ
  allocs_in w = all_allocs (hands_in w)

  abbrev nulls_in : Worker L → ℕ
  nulls_in w = all_nulls (hands_in w)

  abbrev gets_in : Worker L → ℕ
  gets_in w = all_gets (hands_in w)

  abbrev granted_in : Worker L → ℕ
  granted_in w = granted_by (told_by size w.answered)

  abbrev refused_in : Worker L → ℕ
  refused_in w = refused_by (told_by size w.answered)

  abbrev fetched_in : Worker L → ℕ
  fetched_in w = fetched_by (told_by size w.answered)

  abbrev noted_in : Worker L → ℕ
  noted_in w = length (seat_in w).notes

  abbrev fetches_in : Worker L → ℕ
  fetches_in w = length (seat_in w).fetches

  abbrev lost_in : Worker L → ℕ
  lost_in w = lost (seat_in w).notes

  -- what a worker did, over its parts alone
  record IsShare (w : Worker L) : Type 0 where
    pub even : IsEven (hands_in w)
    pub idle : IsIdle o (seat_in w)
    pub ticket : IsOf t w.ticket
    pub good : All (Answers programs jobs) (told_by size w.answered)
    pub drawn : HasDrawn (bundles_in size (length jobs)) w.ticket w.answered.bundles.items w.ending
    pub whole : w.ending ≢ OutOfMemory → All (IsWhole size (length jobs)) w.answered.bundles.items
    pub granted : allocs_in w ≡ granted_in w + clashes_in w
    pub refused : nulls_in w + clashes_in w ≡ refused_in w
    pub fetched : gets_in w ≡ fetched_in w + strays_in w

  share_drawn : (w : Worker L) → IsShare w → w.ending ≢ OutOfMemory → AreAsDrawn (bundles_in size (length jobs)) w.ticket.drawn w.answered.bundles.items
  share_drawn w s = drawn_by (bundles_in size (length jobs)) w.ticket w.answered.bundles.items w.ending s.drawn

  share_passed : (w : Worker L) → IsShare w → w.ending ≡ Through → w.ticket.passed ≡ true
  share_passed w s = passed_by (bundles_in size (length jobs)) w.ticket w.answered.bundles.items w.ending s.drawn

  module _ (before after : Worker L) (f : IsFresh o t before) (d : IsDone programs jobs size t before after) where
    now_has : tools_in after ≡ d.new
    now_has = ap tools_or d.new_are

    had : tools_in before ≡ d.old
    had = ap tools_or d.old_are

    was_idle : d.old.seat.table ≡ o.table
    was_idle = ap (λ (k : Tools L). k.seat.table) (ap tools_or (sym d.old_are ∙ f.tools_are)) ∙ f.unused.table

    is_share : IsShare after
    is_share = record {
      even = subst (λ (k : Tools L). IsEven k.hands) (sym now_has) d.used.even;
      idle = record {
        table = ap (λ (k : Tools L). k.seat.table) now_has ∙ (d.used.table ∙ was_idle);
        held = ap (λ (k : Tools L). k.seat.held) now_has ∙ d.used.held;
      };
      ticket = d.served.tickets;
      good = d.served.good;
      drawn = d.served.drawn;
      whole = d.served.whole;
      granted =
          let a = ap (λ (k : Tools L). all_allocs k.hands) now_has in
          let k = ap (λ (k : Tools L). k.clashes) now_has in
          omega (arith, a, k, d.used.granted);
      refused =
          let n = ap (λ (k : Tools L). all_nulls k.hands) now_has in
          let k = ap (λ (k : Tools L). k.clashes) now_has in
          omega (arith, n, k, d.used.refused);
      fetched =
          let g = ap (λ (k : Tools L). all_gets k.hands) now_has in
          let k = ap (λ (k : Tools L). k.strays) now_has in
          omega (arith, g, k, d.used.fetched);
    }

    pub is_back : IsBack after
    is_back = record { tools = d.new; tools_are = d.new_are; few = d.used.few }

    -- what grew with what a worker used
    grew : (total more : Tools L → ℕ) → total d.new ≡ total d.old + more d.new
        → total (tools_in after) ≡ total (tools_in before) + more (tools_in after)
    grew total more used = let new = ap total now_has in let old = ap total had in let m = ap more now_has in omega (arith, new, old, m, used)

    noted_grew : noted_in after ≡ noted_in before + allocs_in after
    noted_grew = grew (λ k. length k.seat.notes) (λ k. all_allocs k.hands) d.used.notes

    fetches_grew : fetches_in after ≡ fetches_in before + gets_in after
    fetches_grew = grew (λ k. length k.seat.fetches) (λ k. all_gets k.hands) d.used.fetches

    lost_grew : lost_in after ≡ lost_in before + clashes_in after
    lost_grew = grew (λ k. lost k.seat.notes) (λ k. k.clashes) d.used.lost

  module _ (olds news : List (Worker L)) (len : length news ≡ length olds) (fresh : All (IsFresh o t) olds)
      (done_each : AreDone programs jobs size t olds news) where
    pub all_back : All IsBack news
    all_back = all_by_index IsBack olds news len (λ i d l. is_back (slice_index_or olds i d) (slice_index_or news i d) (fresh i d l) (done_each i d l))

    shares : All IsShare news
    shares = all_by_index IsShare olds news len (λ i d l. is_share (slice_index_or olds i d) (slice_index_or news i d) (fresh i d l) (done_each i d l))

    all_noted : sum_by noted_in news ≡ sum_by noted_in olds + sum_by allocs_in news
    all_noted =
        sum_grown noted_in allocs_in olds news len (λ i d l. noted_grew (slice_index_or olds i d) (slice_index_or news i d) (fresh i d l) (done_each i d l))

    all_fetches : sum_by fetches_in news ≡ sum_by fetches_in olds + sum_by gets_in news
    all_fetches =
        sum_grown fetches_in gets_in olds news len (λ i d l. fetches_grew (slice_index_or olds i d) (slice_index_or news i d) (fresh i d l) (done_each i d l))

    all_lost : sum_by lost_in news ≡ sum_by lost_in olds + sum_by clashes_in news
    all_lost =
        sum_grown lost_in clashes_in olds news len (λ i d l. lost_grew (slice_index_or olds i d) (slice_index_or news i d) (fresh i d l) (done_each i d l))

    module _ (seats : List SeatView) (p : Parts L) (done : Done) (seats_are : map seat_in olds ≡ reverse seats)
        (dismissed : AreDismissed news p done) where
      count : length news ≡ length seats
      count = len ∙ as_many seat_in olds seats seats_are

      allocs_three : sum_by allocs_in news ≡ all_free_allocs p
      allocs_three = sum_allocs hands_in news p.hands dismissed.parts.hands

      nulls_three : sum_by nulls_in news ≡ all_free_nulls p
      nulls_three = sum_nulls hands_in news p.hands dismissed.parts.hands

      gets_three : sum_by gets_in news ≡ all_free_gets p
      gets_three = sum_gets hands_in news p.hands dismissed.parts.hands

      reported : (h : List Numbered → ℕ) → sum_by h (reports_of size p) ≡ sum_by (λ w. h (told_by size w.answered)) news
      reported h = sum_mapped h (told_by size) p.answered.items ∙ part_sum (λ w. w.answered) news p.answered.items dismissed.parts.answered (λ a. h (told_by size a))

      answered_times : (x : ℕ) → times_of x (bundles_of p.answered.items) ≡ sum_by (λ w. times_of x w.answered.bundles.items) news
      answered_times x = sum_flat (λ (a : Answered). a.bundles.items) (λ b. one_if b.number x) p.answered.items
          ∙ part_sum (λ w. w.answered) news p.answered.items dismissed.parts.answered (λ a. times_of x a.bundles.items)

      before_noted : (h : SeatView → ℕ) → sum_by (λ w. h (seat_in w)) olds ≡ sum_by h seats
      before_noted h = sym (sum_mapped h seat_in olds) ∙ ap (sum_by h) seats_are ∙ sum_turned h seats

      after_noted : (h : SeatView → ℕ) → sum_by h p.seats.items ≡ sum_by (λ w. h (seat_in w)) news
      after_noted h = part_sum seat_in news p.seats.items dismissed.parts.seats h

      pub all_served : AreServed programs jobs o size t seats p done
      all_served = record {
        even = all_even hands_in news p.hands dismissed.parts.hands (length seats) count (λ i d l. (shares i d l).even);
        seats_all = part_len seat_in news p.seats.items dismissed.parts.seats ∙ count;
        idle = part_all seat_in news p.seats.items dismissed.parts.seats (IsIdle o) (λ i d l. (shares i d l).idle);
        noted = omega (arith, after_noted (λ s. length s.notes), all_noted, before_noted (λ s. length s.notes), allocs_three);
        lost = omega (arith, after_noted (λ s. lost s.notes), all_lost, before_noted (λ s. lost s.notes), dismissed.clashes);
        fetches = omega (arith, after_noted (λ s. length s.fetches), all_fetches, before_noted (λ s. length s.fetches), gets_three);
        granted =
            let each = sum_two allocs_in granted_in clashes_in news (λ i d l. (shares i d l).granted) in
            omega (arith, each, allocs_three, reported granted_by, dismissed.clashes);
        refused =
            let each = sum_two_less nulls_in clashes_in refused_in news (λ i d l. (shares i d l).refused) in
            omega (arith, each, nulls_three, reported refused_by, dismissed.clashes);
        fetched =
            let each = sum_two gets_in fetched_in strays_in news (λ i d l. (shares i d l).fetched) in
            omega (arith, each, gets_three, reported fetched_by, dismissed.strays);
        answered_all = part_len (λ w. w.answered) news p.answered.items dismissed.parts.answered ∙ count;
        good = all_mapped (All (Answers programs jobs)) (told_by size) p.answered.items
            (part_all (λ w. w.answered) news p.answered.items dismissed.parts.answered (λ a. All (Answers programs jobs) (told_by size a)) (λ i d l. (shares i d l).good));
        whole = λ is.
            let well : done.ending ≢ OutOfMemory = λ out. through_not_out (sym is ∙ out) in
            all_flat (λ (a : Answered). a.bundles.items) (IsWhole size (length jobs)) p.answered.items
            (part_all (λ w. w.answered) news p.answered.items dismissed.parts.answered (λ a. All (IsWhole size (length jobs)) a.bundles.items) (λ i d l. (shares i d l).whole (dismissed.kept well i d l)));
        drawers_all = part_len (λ w. w.ticket) news p.drawers.items dismissed.parts.drawers ∙ count;
        drawers = part_all (λ w. w.ticket) news p.drawers.items dismissed.parts.drawers (IsOf t) (λ i d l. (shares i d l).ticket);
        through = λ is. part_any (λ w. w.ticket) news p.drawers.items dismissed.parts.drawers (λ s. s.passed ≡ true)
            (any_also (λ w. w.ending ≡ Through) (λ w. w.ticket.passed ≡ true) news (λ i d l. share_passed (slice_index_or news i d) (shares i d l)) (dismissed.through is));
        drawn = λ is x below.
            let well : done.ending ≢ OutOfMemory = λ out. through_not_out (sym is ∙ out) in
            part_sum (λ w. w.ticket) news p.drawers.items dismissed.parts.drawers (λ s. times x s.drawn)
            ∙ sum_same (λ w. times x w.ticket.drawn) (λ w. times_of x w.answered.bundles.items) news (λ i d l. share_drawn (slice_index_or news i d) (shares i d l) (dismissed.kept well i d l) x below)
            ∙ sym (answered_times x);
      }
