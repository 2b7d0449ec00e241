-- What all workers did, from what each did.
use Rattle.std.proofs.Common.{◌≡◌, ◌≢◌, ◌<◌, ◌+◌, ℕ, suc, true, All, Any, List, [], ◌∷◌, length, map, reverse, slice_index_or, refl, sym, ap, subst, ◌∙◌, arith}
use Rattle.std.specs.Prelude.{sum_by}
use Rattle.std.proofs.lemmas.List.{length-map}
use Rattle.std.proofs.lemmas.List.Sums.{sum_by-cons}
use Rattle.owners_table.specs.Drawing.{TicketView, times}
use Rattle.worker_pool.specs.declared.worker.Ending.{Ending}
use Rattle.worker_pool.specs.declared.worker.Ending.TheVariants.{Through, Unstarted, OutOfMemory}
use Rattle.worker_pool.specs.declared.answered.Bundle.{Bundle}
use Rattle.worker_pool.specs.Bundles.{AreAsDrawn}
use Rattle.worker_pool.specs.Numbering.{times_of}
use Rattle.worker_pool.specs.Working.{HasDrawn}
use Rattle.worker_pool.proofs.Turned.{sum_turned, length_turned, all_turned, any_turned, sum_mapped, all_mapped, any_mapped}

-- ---- sums over one list

module _ {X : Type 0} where
  rest_of : (P : X → Type 0) (x : X) (xs : List X) → All P (x ∷ xs) → All P xs
  rest_of P x xs h k d l = h (suc k) d (omega (arith, l))

  -- an equation of each is one of the sums
  pub sum_same : (f g : X → ℕ) (xs : List X) → All (λ x. f x ≡ g x) xs → sum_by f xs ≡ sum_by g xs
  sum_same f g [] h = refl
  sum_same f g (x ∷ xs) h = omega (arith, sum_by-cons f x xs, sum_by-cons g x xs, h 0 x (omega arith), sum_same f g xs (rest_of (λ y. f y ≡ g y) x xs h))

  pub sum_two : (a g k : X → ℕ) (xs : List X) → All (λ x. a x ≡ g x + k x) xs → sum_by a xs ≡ sum_by g xs + sum_by k xs
  sum_two a g k [] h = refl
  sum_two a g k (x ∷ xs) h =
      let rest = sum_two a g k xs (rest_of (λ y. a y ≡ g y + k y) x xs h) in
      omega (arith, sum_by-cons a x xs, sum_by-cons g x xs, sum_by-cons k x xs, h 0 x (omega arith), rest)

  pub sum_two_less : (a k g : X → ℕ) (xs : List X) → All (λ x. a x + k x ≡ g x) xs → sum_by a xs + sum_by k xs ≡ sum_by g xs
  sum_two_less a k g [] h = refl
  sum_two_less a k g (x ∷ xs) h =
      let rest = sum_two_less a k g xs (rest_of (λ y. a y + k y ≡ g y) x xs h) in
      omega (arith, sum_by-cons a x xs, sum_by-cons g x xs, sum_by-cons k x xs, h 0 x (omega arith), rest)

  pub sum_even : (a b c d : X → ℕ) (xs : List X) → All (λ x. a x + b x ≡ c x + d x) xs → sum_by a xs + sum_by b xs ≡ sum_by c xs + sum_by d xs
  sum_even a b c d [] h = refl
  sum_even a b c d (x ∷ xs) h =
      let rest = sum_even a b c d xs (rest_of (λ y. a y + b y ≡ c y + d y) x xs h) in
      omega (arith, sum_by-cons a x xs, sum_by-cons b x xs, sum_by-cons c x xs, sum_by-cons d x xs, h 0 x (omega arith), rest)

  pub three_sums : (a b c : X → ℕ) (xs : List X) → sum_by (λ x. a x + b x + c x) xs ≡ sum_by a xs + sum_by b xs + sum_by c xs
  three_sums a b c [] = refl
  three_sums a b c (x ∷ xs) =
      omega (arith, sum_by-cons a x xs, sum_by-cons b x xs, sum_by-cons c x xs, sum_by-cons (λ y. a y + b y + c y) x xs, three_sums a b c xs)

  -- what each grew by, the sum grew by
  pub sum_grown : (f g : X → ℕ) (olds news : List X) → length news ≡ length olds
      → ((i : ℕ) (d : X) → i < length olds → f (slice_index_or news i d) ≡ f (slice_index_or olds i d) + g (slice_index_or news i d))
      → sum_by f news ≡ sum_by f olds + sum_by g news
  sum_grown f g [] [] len h = refl
  sum_grown f g [] (n ∷ ns) len h = absurd (omega (arith, len))
  sum_grown f g (o ∷ os) [] len h = absurd (omega (arith, len))
  sum_grown f g (o ∷ os) (n ∷ ns) len h =
      let rest = sum_grown f g os ns (omega (arith, len)) (λ i d l. h (suc i) d (omega (arith, l))) in
      omega (arith, sum_by-cons f n ns, sum_by-cons f o os, sum_by-cons g n ns, h 0 n (omega arith), rest)

  -- what holds of each, by its index
  pub all_by_index : (P : X → Type 0) (olds news : List X) → length news ≡ length olds
      → ((i : ℕ) (d : X) → i < length olds → P (slice_index_or news i d)) → All P news
  all_by_index P olds news len h i d l = h i d (omega (arith, l, len))

-- ---- parts of workers, which lie the last one first

module _ {X Y : Type 0} (f : X → Y) (ws : List X) (items : List Y) (are : items ≡ map f (reverse ws)) where
  pub part_sum : (h : Y → ℕ) → sum_by h items ≡ sum_by (λ w. h (f w)) ws
  part_sum h = ap (sum_by h) are ∙ sum_mapped h f (reverse ws) ∙ sum_turned (λ w. h (f w)) ws

  pub part_all : (P : Y → Type 0) → All (λ w. P (f w)) ws → All P items
  part_all P each = subst (All P) (sym are) (all_mapped P f (reverse ws) (all_turned (λ w. P (f w)) ws each))

  pub part_any : (P : Y → Type 0) → Any (λ w. P (f w)) ws → Any P items
  part_any P one = subst (Any P) (sym are) (any_mapped P f (reverse ws) (any_turned (λ w. P (f w)) ws one))

  pub part_len : length items ≡ length ws
  part_len = ap length are ∙ length-map (reverse ws) f ∙ length_turned ws

-- ---- what was drawn, and what was reported

pub through_not_out : Through ≡ OutOfMemory → ⊥
through_not_out e = cc

-- of a worker that ended well
module _ (limit : ℕ) (ticket : TicketView) (bundles : List Bundle) where
  pub drawn_by : (e : Ending) → HasDrawn limit ticket bundles e → e ≢ OutOfMemory → AreAsDrawn limit ticket.drawn bundles
  drawn_by Through h well = h.1
  drawn_by Unstarted h well = λ x below. ap (times x) h.0 ∙ sym (ap (times_of x) h.1)
  drawn_by OutOfMemory h well = absurd (well refl)

  pub passed_by : (e : Ending) → HasDrawn limit ticket bundles e → e ≡ Through → ticket.passed ≡ true
  passed_by Through h is = h.0
  passed_by Unstarted h is = absurd (cc)
  passed_by OutOfMemory h is = absurd (cc)
