-- Jobs in a list: one that is pushed, and one that is got.
use Rattle.std.proofs.Common.{◌≡◌, ◌≤◌, ◌<◌, ◌-◌, ◌++◌, ℕ, zero, suc, List, [], ◌∷◌, length, slice_get, Some, refl, sym, ap, subst, ◌∙◌, arith}
use Rattle.std.specs.List.{slice_range}
use Rattle.std.proofs.Math.ListN.{take, drop, get_or}
use Rattle.std.proofs.Math.Seq.{take-length, drop-append_seam}
use Rattle.std.proofs.lemmas.List.{drop-append-le, length-append, length-drop, take-append-le}
use Rattle.std.proofs.lemmas.Option.{slice_get-get_or}
use Rattle.job_list.specs.declared.jobs.Job.{Job}
use Rattle.job_list.specs.declared.job_list.Entry.{Entry}
use Rattle.job_list.specs.JobLists.{jobs_from, start_of, AreInOrder}

pub jobs_length : (start : ℕ) (bytes : List ℕ) (entries : List Entry) → length (jobs_from start bytes entries) ≡ length entries
jobs_length start bytes [] = refl
jobs_length start bytes (e ∷ rest) = ap suc (jobs_length e.end bytes rest)

starts_within : (start : ℕ) (bytes : List ℕ) (entries : List Entry) → AreInOrder start bytes entries → start ≤ length bytes
starts_within start bytes [] order = omega (arith, order)
starts_within start bytes (e ∷ rest) order = let later = starts_within e.end bytes rest order.1 in omega (arith, order.0, later)

part_before : (bytes more : List ℕ) (start end : ℕ) → start ≤ end → end ≤ length bytes → slice_range (bytes ++ more) start end ≡ slice_range bytes start end
part_before bytes more start end s e =
    let left = length-drop start bytes in
    ap (take (end - start)) (drop-append-le start bytes more (omega (arith, s, e))) ∙ take-append-le (end - start) (drop start bytes) more (omega (arith, left, s, e))

part_after : (bytes more : List ℕ) (start end : ℕ) → start ≡ length bytes → end ≡ length (bytes ++ more) → slice_range (bytes ++ more) start end ≡ more
part_after bytes more start end s e =
    let size : end - start ≡ length more = let both = length-append bytes more in omega (arith, both, s, e) in
    ap (λ n. take (end - start) (drop n (bytes ++ more))) s ∙ ap (take (end - start)) (drop-append_seam bytes more) ∙ ap (λ n. take n more) size ∙ take-length more

-- a job is pushed
pub pushed : (start : ℕ) (bytes more : List ℕ) (entries : List Entry) (new : Entry) → AreInOrder start bytes entries → new.end ≡ length (bytes ++ more)
    → jobs_from start (bytes ++ more) (entries ++ new ∷ []) ≡ jobs_from start bytes entries ++ record { program = new.program; context = more } ∷ []
pushed start bytes more [] new order ends =
    ap (λ context. record { program = new.program; context = context } ∷ []) (part_after bytes more start new.end order ends)
pushed start bytes more (e ∷ rest) new order ends =
    ap (λ context. record { program = e.program; context = context } ∷ jobs_from e.end (bytes ++ more) (rest ++ new ∷ []))
    (part_before bytes more start e.end order.0 (starts_within e.end bytes rest order.1))
    ∙ ap (λ (jobs : List Job). record { program = e.program; context = slice_range bytes start e.end } ∷ jobs) (pushed e.end bytes more rest new order.1 ends)

pub pushed_order : (start : ℕ) (bytes more : List ℕ) (entries : List Entry) (new : Entry) → AreInOrder start bytes entries → new.end ≡ length (bytes ++ more)
    → AreInOrder start (bytes ++ more) (entries ++ new ∷ [])
pushed_order start bytes more [] new order ends = let both = length-append bytes more in (omega (arith, both, order, ends), ends)
pushed_order start bytes more (e ∷ rest) new order ends = (order.0, pushed_order e.end bytes more rest new order.1 ends)

-- a job that is there, whose context has the bytes from `from` on
pub record IsThere (from start : ℕ) (bytes : List ℕ) (entries : List Entry) (number : ℕ) (e : Entry) : Type 0 where
  pub begins : from ≤ e.end
  pub ends : e.end ≤ length bytes
  pub job : slice_get (jobs_from start bytes entries) number ≡ Some (record { program = e.program; context = slice_range bytes from e.end })

later_start : (start : ℕ) (first : Entry) (rest : List Entry) (n : ℕ) → start_of start (first ∷ rest) (suc n) ≡ start_of first.end rest n
later_start start first rest zero = refl
later_start start first rest (suc n) = refl

there_at : (start : ℕ) (bytes : List ℕ) (entries : List Entry) (number : ℕ) (e : Entry) → AreInOrder start bytes entries → slice_get entries number ≡ Some e
    → IsThere (start_of start entries number) start bytes entries number e
there_at start bytes [] number e order is = absurd (cc)
there_at start bytes (first ∷ rest) zero e order is =
    let same : first ≡ e = cc in
    subst (IsThere start start bytes (first ∷ rest) zero) same (record { begins = order.0; ends = starts_within first.end bytes rest order.1; job = refl })
there_at start bytes (first ∷ rest) (suc n) e order is =
    let was = there_at first.end bytes rest n e order.1 is in
    let from = later_start start first rest n in record {
      begins = omega (arith, was.begins, from);
      ends = was.ends;
      job = was.job ∙ ap (λ k. Some (record { program = e.program; context = slice_range bytes k e.end })) (sym from);
    }

pub there : (bytes : List ℕ) (entries : List Entry) (number from : ℕ) (d : Entry) → AreInOrder 0 bytes entries → number < length entries → from ≡ start_of 0 entries number
    → IsThere from 0 bytes entries number (get_or entries number d)
there bytes entries number from d order inside is =
    subst (λ k. IsThere k 0 bytes entries number (get_or entries number d)) (sym is)
    (there_at 0 bytes entries number (get_or entries number d) order (slice_get-get_or entries number d inside))
