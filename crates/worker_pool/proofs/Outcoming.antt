-- What comes of the jobs, from what all workers did and where the bundles were put.
use Rattle.std.proofs.Common.{◌≡◌, ◌≤◌, ◌<◌, ◌+◌, ◌*◌, min, ℕ, Some, All, Contains, List, [], ◌∷◌, length, slice_get, slice_index_or, map, refl}
use Rattle.std.proofs.Common.{sym, ap, subst, ◌∙◌, arith}
use Rattle.std.specs.Prelude.{sum_by, vec_len}
use Rattle.std.specs.List.{flat_map}
use Rattle.std.proofs.lemmas.List.{length-map}
use Rattle.std.proofs.lemmas.List.Elements.{All-contains}
use Rattle.std.proofs.lemmas.List.Sums.{sum_by-cons}
use Rattle.ebpf_verify.specs.Subject.{Subject}
use Rattle.ebpf_machine.specs.declared.report.Report.{Report}
use Rattle.ebpf_machine.specs.Whole.{granted, refused, fetched}
use Rattle.ebpf_machine.proofs.Lists.ListLemmas.{All-by_contains}
use Rattle.ebpf_machine.proofs.Lists.Mapped.{Contains-mapped}
use Rattle.object_cache.specs.declared.totals.Totals.{Totals}
use Rattle.owners_table.specs.Owning.{OwnersView, SeatView}
use Rattle.owners_table.specs.Drawing.{TicketsView, times_drawn}
use Rattle.worker_pool.specs.EachKind.{AreClosed}
use Rattle.worker_pool.specs.declared.worker.Ending.TheVariants.{Through}
use Rattle.worker_pool.specs.declared.answered.Answered.{Answered}
use Rattle.worker_pool.specs.declared.answered.Bundle.{Bundle}
use Rattle.job_list.specs.declared.jobs.Job.{Job}
use Rattle.worker_pool.specs.declared.outcome.TheConstants.{MAX_JOBS}
use Rattle.worker_pool.specs.Numbering.{bundles_in, numbered, times_of, told_by, told_of}
use Rattle.worker_pool.specs.declared.crew.Parts.{Parts}
use Rattle.worker_pool.specs.declared.crew.Done.{Done}
use Rattle.worker_pool.specs.declared.outcome.ShelfTotals.{ShelfTotals}
use Rattle.worker_pool.specs.Outcomes.{IsOutcome, AreReportsFor, IsReportFor, IsEvenTotal, IsEvenShelf, allocs_in, nulls_in, gets_in, left_in}
use Rattle.worker_pool.specs.Outcomes.{granted_in, refused_in, fetched_in, JobsOutcome}
use Rattle.job_list.specs.ReportLists.{Kept, all_in}
use Rattle.worker_pool.specs.Places.{IsThere, bundles_of, counted, weight, weight_in, weight_of}
use Rattle.worker_pool.specs.Serving.{AreServed, all_allocs, all_nulls, all_gets, reports_of}
use Rattle.worker_pool.specs.Working.{Answers, granted_by, refused_by, fetched_by}
use Rattle.worker_pool.proofs.EachKind.{closed_allocs, closed_even, closed_gets, closed_nulls, closed_shelves}
use Rattle.worker_pool.proofs.Flat.{all_flat, all_lists, sum_flat}
use Rattle.worker_pool.proofs.Gathered.{all_len, all_told}
use Rattle.worker_pool.proofs.NumberingLemmas.{numbered_at, numbered_weight}
use Rattle.worker_pool.proofs.Shares.{sum_same}
use Rattle.worker_pool.proofs.Turned.{sum_mapped}

ones : {X : Type 0} (xs : List X) → sum_by (λ x. 1) xs ≡ length xs
ones [] = refl
ones (x ∷ xs) = omega (arith, sum_by-cons (λ y. 1) x xs, ones xs)

-- sums of numbers that 64 bits have, since their sum is one
counted_are : {X : Type 0} (f : X → ℕ) (xs : List X) → sum_by f xs ≤ 18446744073709551615 → sum_by (λ x. min (f x) 18446744073709551615) xs ≡ sum_by f xs
counted_are f [] few = refl
counted_are f (x ∷ xs) few =
    let sum = sum_by-cons f x xs in
    let rest = counted_are f xs (omega (arith, few, sum)) in
    omega (arith, few, sum, rest, sum_by-cons (λ y. min (f y) 18446744073709551615) x xs)

-- each worker's list of reports weighs what its bundles do
told_weight : (h : Report → ℕ) (size : ℕ) (bundles : List Bundle) → weight_of h (flat_map (told_of size) bundles) ≡ weight_in h bundles
told_weight h size bundles =
    sum_flat (told_of size) (λ n. h n.report) bundles
    ∙ sum_same (λ b. weight_of h (told_of size b)) (λ b. sum_by h b.reports.items) bundles (λ i d l. let b = slice_index_or bundles i d in numbered_weight h (b.number * size) b.reports.items)

module _ {L : Type 0} (programs : List Subject) (jobs : List Job) (o : OwnersView) (size : ℕ) (t : TicketsView) (seats : List SeatView) (p : Parts L) (done : Done)
    (through : done.ending ≡ Through) (s : AreServed programs jobs o size t seats p done) where
  abbrev bundles : List Bundle
  bundles = bundles_of p.answered.items

  abbrev limit : ℕ
  limit = bundles_in size (length jobs)

  pub bundles_inside : All (λ b. b.number < limit) bundles
  bundles_inside = λ i d l. (s.whole through i d l).inside

  -- the reports of each bundle are those of its jobs
  told : (b : Bundle) → Contains bundles b → All (Answers programs jobs) (told_of size b)
  told b one = All-contains (λ c. All (Answers programs jobs) (told_of size c)) bundles b each one where
    of_worker : All (λ a. All (Answers programs jobs) (told_by size a)) p.answered.items
    of_worker = All-by_contains (λ a. All (Answers programs jobs) (told_by size a)) p.answered.items (λ a there.
        All-contains (All (Answers programs jobs)) (reports_of size p) (told_by size a) s.good (Contains-mapped (told_by size) p.answered.items a there))

    each : All (λ c. All (Answers programs jobs) (told_of size c)) bundles
    each = all_flat (λ (a : Answered). a.bundles.items) (λ c. All (Answers programs jobs) (told_of size c)) p.answered.items
        (λ i d l. let a = slice_index_or p.answered.items i d in all_lists (told_of size) (Answers programs jobs) a.bundles.items (of_worker i d l))

  module _ (each : (x : ℕ) → x < limit → times_drawn x p.drawers.items ≡ 1) where
    -- each place gets one bundle
    pub placed_once : (x : ℕ) → x < limit → times_of x bundles ≡ 1
    placed_once x below = sym (s.drawn through x below) ∙ each x below

    module _ (some : 0 < size) (few : length jobs ≤ MAX_JOBS) (lists : List Kept) (lists_len : length lists ≡ limit) (there : (x : ℕ) → x < limit → IsThere bundles lists x)
        (weighs : (h : Report → ℕ) → weight h lists ≡ weight_in h bundles) where
      abbrev reports : List Report
      reports = all_in lists

      pub reports_len : length reports ≡ length jobs
      reports_len = all_len size (length jobs) some (Answers programs jobs) bundles (s.whole through) told lists lists_len there

      report_for : (j : ℕ) (job : Job) (r : Report) → slice_get jobs j ≡ Some job → slice_get reports j ≡ Some r → IsReportFor programs job r
      report_for j job r job_is at =
          let all = all_told size (length jobs) some (Answers programs jobs) bundles (s.whole through) told lists lists_len there in
          let here : 0 + j ≡ j = omega arith in
          let a = subst (λ (k : ℕ). Answers programs jobs (record { job = k; report = r })) here
          (All-contains (Answers programs jobs) (numbered 0 reports) (record { job = 0 + j; report = r }) all (numbered_at 0 reports j r at))
          in
          let same : Some a.job ≡ Some job = sym a.job_is ∙ job_is in
          let job_same : a.job ≡ job = cc in
          subst (λ (k : Job). IsReportFor programs k r) job_same (record { subject = a.subject; subject_is = a.subject_is; report = a.report })

      weighed : (h : Report → ℕ) → sum_by h reports ≡ sum_by (λ a. weight_in h a.bundles.items) p.answered.items
      weighed h = sum_flat (λ (k : Kept). k.items) h lists ∙ weighs h ∙ sum_flat (λ (a : Answered). a.bundles.items) (λ b. sum_by h b.reports.items) p.answered.items

      summed : (h : Report → ℕ) → sum_by h reports ≡ sum_by (weight_of h) (reports_of size p)
      summed h =
          weighed h ∙ sum_same (λ a. weight_in h a.bundles.items) (λ a. weight_of h (told_by size a)) p.answered.items
          (λ i d l. sym (told_weight h size (slice_index_or p.answered.items i d).bundles.items))
          ∙ sym (sum_mapped (weight_of h) (told_by size) p.answered.items)

      -- each worker did as many jobs as it has reports
      made : List Bundle → ℕ
      made bs = sum_by (λ b. vec_len b.reports) bs

      made_weight : (bs : List Bundle) → weight_in (λ r. 1) bs ≡ made bs
      unfolding made
      made_weight bs = sum_same (λ b. sum_by (λ r. 1) b.reports.items) (λ b. vec_len b.reports) bs (λ i d l. let b = slice_index_or bs i d in ones b.reports.items ∙ sym b.reports.ok.0)

      all_made : sum_by (λ a. made a.bundles.items) p.answered.items ≡ length jobs
      all_made =
          let same = sum_same (λ a. weight_in (λ r. 1) a.bundles.items) (λ a. made a.bundles.items) p.answered.items (λ i d l. made_weight (slice_index_or p.answered.items i d).bundles.items) in
          omega (arith, same, weighed (λ r. 1), ones reports, reports_len)

      all_counted : sum_by (λ a. counted a.bundles.items) p.answered.items ≡ length jobs
      unfolding made
      all_counted = counted_are (λ a. made a.bundles.items) p.answered.items (omega (arith, all_made, few)) ∙ all_made

      pub outcome : (after : List SeatView) (shelves : List ShelfTotals) (ts : List Totals) → AreClosed o p.hands p.seats.items after shelves ts
          → (out : JobsOutcome) → out.reports ≡ reports → out.totals ≡ ts → out.clashes ≡ done.clashes → out.shelves ≡ shelves
          → out.strays ≡ done.strays → out.jobs_done.items ≡ map (λ a. counted a.bundles.items) p.answered.items
          → IsOutcome programs jobs seats after out
      outcome after shelves ts closed out reports_are totals_are clashes_are shelves_are strays_are jobs_are = record {
        reports = subst (AreReportsFor programs jobs) (sym reports_are) (record { all = reports_len; each = report_for });
        even = subst (All IsEvenTotal) (sym totals_are) (closed_even o p.hands p.seats.items after shelves ts closed (length seats) s.even);
        granted = omega (arith, allocs, s.granted, granted_sum, clashes_are);
        refused = omega (arith, nulls, s.refused, refused_sum, clashes_are);
        noted = omega (arith, allocs, s.noted, closed.noted);
        lost = omega (arith, s.lost, clashes_are, closed.lost);
        shelves = subst (All IsEvenShelf) (sym shelves_are) (closed_shelves o p.hands p.seats.items after shelves ts closed (length seats) s.even);
        fetched = omega (arith, gets, s.fetched, fetched_sum, strays_are);
        fetches =
            let left = ap left_in shelves_are in
            omega (arith, gets, left, s.fetches, closed.fetches);
        workers = ap length jobs_are ∙ length-map p.answered.items (λ a. counted a.bundles.items) ∙ s.answered_all;
        jobs_done = ap (λ ns. sum_by (λ n. n) ns) jobs_are ∙ sum_mapped (λ n. n) (λ a. counted a.bundles.items) p.answered.items ∙ all_counted;
      } where
        gets : gets_in out.shelves ≡ all_gets p
        gets = ap gets_in shelves_are ∙ closed_gets o p.hands p.seats.items after shelves ts closed

        fetched_sum : fetched_in out.reports ≡ sum_by fetched_by (reports_of size p)
        fetched_sum = ap fetched_in reports_are ∙ summed (λ r. fetched r.answers)

        allocs : allocs_in out.totals ≡ all_allocs p
        allocs = ap allocs_in totals_are ∙ closed_allocs o p.hands p.seats.items after shelves ts closed

        nulls : nulls_in out.totals ≡ all_nulls p
        nulls = ap nulls_in totals_are ∙ closed_nulls o p.hands p.seats.items after shelves ts closed

        granted_sum : granted_in out.reports ≡ sum_by granted_by (reports_of size p)
        granted_sum = ap granted_in reports_are ∙ summed (λ r. granted r.answers)

        refused_sum : refused_in out.reports ≡ sum_by refused_by (reports_of size p)
        refused_sum = ap refused_in reports_are ∙ summed (λ r. refused r.answers)
