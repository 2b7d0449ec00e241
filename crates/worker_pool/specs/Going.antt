-- How a worker's store goes from one state to a later one, by what its runs were answered.
use Rattle.std.specs.Prelude.{◌≡◌, ◌+◌, ◌-◌, ℕ, List, [], ◌∷◌, ◌++◌, All, length}
use Rattle.std.proofs.Common.{cond, refl, sym, ap, ◌∙◌, add_assoc, add-zero}
use Rattle.std.proofs.lemmas.List.Sums.{sum_by-append}
use Rattle.ebpf_machine.specs.declared.report.Reply.{Reply}
use Rattle.ebpf_machine.specs.declared.report.Report.{Report}
use Rattle.ebpf_machine.specs.Whole.{granted, refused, fetched, is_granted, is_null, is_fetched}
use Rattle.ebpf_verify.specs.Subject.{Subject}
use Rattle.worker_pool.specs.EachKind.{all_allocs, all_gets, hands_of}
use Rattle.worker_pool.specs.declared.hands.Tools.{Tools}
use Rattle.job_list.specs.declared.jobs.Job.{Job}
use Rattle.worker_pool.specs.Numbering.{Numbered, numbered}
use Rattle.worker_pool.specs.declared.client.Client.{Client}
use Rattle.worker_pool.specs.declared.each_kind.Stocks.{Stocks}
use Rattle.ebpf_owned.specs.Claims.{lost}
use Rattle.worker_pool.specs.Counts.{grants_of, nulls_of, gets_of}
use Rattle.worker_pool.specs.Working.{Answers, granted_by, refused_by, fetched_by}

-- the tools that a store of these stocks and this client is made of, as they are now
abbrev pub tools_of : {L R : Type 0} → Stocks L → Client R → Tools L
tools_of s c = record { hands = hands_of s; seat = c.seat; clashes = c.clashes; strays = c.strays }

-- two sums, one after the other, are one
summed : (was is then told more all : ℕ) → is ≡ was + told → then ≡ is + more → all ≡ told + more → then ≡ was + all
summed was is then told more all first second both = second ∙ ap (λ (n : ℕ). n + more) first ∙ add_assoc was told more ∙ ap (λ (n : ℕ). was + n) (sym both)

module _ {L : Type 0} where
  -- what the seat had noted before the hands did anything: claims, fetches, and claims that found an owner, each clash aside
  abbrev pub notes_before : Tools L → ℕ
  notes_before t = length t.seat.notes - all_allocs t.hands

  abbrev pub fetches_before : Tools L → ℕ
  fetches_before t = length t.seat.fetches - all_gets t.hands

  abbrev pub lost_before : Tools L → ℕ
  lost_before t = lost t.seat.notes - t.clashes

  -- that many calls of new were granted an object and refused one, and that many of swap got one; the seat is at its table, and what it
  -- noted before stays
  pub record HasAnswered (before after : Tools L) (granted refused fetched : ℕ) : Type 0 where
    pub table : after.seat.table ≡ before.seat.table
    pub notes : notes_before after ≡ notes_before before
    pub fetches : fetches_before after ≡ fetches_before before
    pub lost : lost_before after ≡ lost_before before
    pub granted_are : grants_of after.hands after.clashes ≡ grants_of before.hands before.clashes + granted
    pub refused_are : nulls_of after.hands after.clashes ≡ nulls_of before.hands before.clashes + refused
    pub fetched_are : gets_of after.hands after.strays ≡ gets_of before.hands before.strays + fetched

  -- as these replies say, which is how the store goes
  abbrev pub GoesBy : Tools L → List Reply → Tools L → Type 0
  GoesBy before told after = HasAnswered before after (granted told) (refused told) (fetched told)

  -- as these reports say
  abbrev pub HasAnsweredAll : Tools L → List Numbered → Tools L → Type 0
  HasAnsweredAll before answered after = HasAnswered before after (granted_by answered) (refused_by answered) (fetched_by answered)

  -- one report more, of the job with this number, and what was done for it
  pub record IsAnswered (programs : List Subject) (jobs : List Job) (number : ℕ) (before after : Tools L) (old new : List Report) : Type 0 where
    pub made : Report
    pub good : Answers programs jobs (record { job = number; report = made })
    pub kept : new ≡ old ++ made ∷ []
    pub goes : GoesBy before made.answers after

  -- these reports, of jobs in a row from this one on, and what was done for them
  pub record AreAnswered (programs : List Subject) (jobs : List Job) (first : ℕ) (before after : Tools L) (reports : List Report) : Type 0 where
    pub good : All (Answers programs jobs) (numbered first reports)
    pub goes : HasAnsweredAll before (numbered first reports) after

  -- whichever jobs in a row were answered up to this number, what was done since belongs to them: reports more or none
  abbrev pub HasAnsweredOn : (programs : List Subject) (jobs : List Job) (number : ℕ) (before after : Tools L) (old new : List Report) → Type 0
  HasAnsweredOn programs jobs number before after old new =
      (first : ℕ) (start : Tools L) → number ≡ first + length old → AreAnswered programs jobs first start before old
      → AreAnswered programs jobs first start after new

  -- no report more, and nothing that a call was granted, refused or fetched
  abbrev pub IsUnanswered : (before after : Tools L) → (old new : List Report) → Type 0
  IsUnanswered before after old new = (new ≡ old) × GoesBy before [] after

  -- ---- the laws of `goes`

  pub none_answered : (t : Tools L) → GoesBy t [] t
  none_answered t = record {
    table = refl;
    notes = refl;
    fetches = refl;
    lost = refl;
    granted_are = sym (add-zero (grants_of t.hands t.clashes));
    refused_are = sym (add-zero (nulls_of t.hands t.clashes));
    fetched_are = sym (add-zero (gets_of t.hands t.strays));
  }

  pub answered_on : (s t u : Tools L) (told more : List Reply) → GoesBy s told t → GoesBy t more u → GoesBy s (told ++ more) u
  answered_on s t u told more first then = record {
    table = then.table ∙ first.table;
    notes = then.notes ∙ first.notes;
    fetches = then.fetches ∙ first.fetches;
    lost = then.lost ∙ first.lost;
    granted_are = summed _ _ _ _ _ _ first.granted_are then.granted_are (sum_by-append (λ (r : Reply). cond (is_granted r) 1 0) told more);
    refused_are = summed _ _ _ _ _ _ first.refused_are then.refused_are (sum_by-append (λ (r : Reply). cond (is_null r) 1 0) told more);
    fetched_are = summed _ _ _ _ _ _ first.fetched_are then.fetched_are (sum_by-append (λ (r : Reply). cond (is_fetched r) 1 0) told more);
  }
