-- Slots with values apart from one another, and what they weigh.
use Rattle.std.proofs.Common.{◌≡◌, ℕ, zero, suc, ◌+◌, ◌*◌, ◌<◌, ◌≤◌, List, [], ◌∷◌, ◌++◌, map, take, replicate, length, get_or, sym, refl, ap, ◌∙◌, subst, arith, length-append, append-nil}
use Rattle.std.specs.Prelude.{sum_by, reverse, Option, Some, None}
use Rattle.std.proofs.lemmas.List.{append_assoc, reverse-append, length-reverse, get_or_append_left, get_or_at}
use Rattle.std.proofs.lemmas.List.Sums.{sum_by-cons}
use Rattle.std.proofs.lemmas.List.Elements.{filter_map-append}
use mathlib.Core.Option.{some, some-injective, some-ne-none}
use lib.ListN.{get_elem?}
use Rattle.std.specs.Option.{option_to_list}
use mathlib.Core.Logic.{dite}
use native.Mathlib.Decide.{ℕ_discrete}
use Rattle.shared_row.specs.Spread.{spot, values_in, IsValue}
use Rattle.shared_row.specs.Weighing.{in_option, weight}
use Rattle.shared_row.proofs.Lists.{take-next}

module _ {T : Type 0} where
  -- what slots weigh is what the values in them weigh
  pub values-weigh : (f : T → ℕ) (slots : List (Option T)) → sum_by (in_option f) slots ≡ sum_by f (values_in slots)
  values-weigh f [] = refl
  values-weigh f (None ∷ xs) = omega (arith, values-weigh f xs, sum_by-cons (in_option f) None xs)
  values-weigh f (Some x ∷ xs) = omega (arith, values-weigh f xs, sum_by-cons (in_option f) (Some x) xs, sum_by-cons f x (values_in xs))

  pub homes-weigh : (f : T → ℕ) (slots : List (Option T)) → sum_by (weight f) (map some slots) ≡ sum_by f (values_in slots)
  homes-weigh f [] = refl
  homes-weigh f (None ∷ xs) = omega (arith, homes-weigh f xs, sum_by-cons (weight f) (some None) (map some xs))
  homes-weigh f (Some x ∷ xs) = omega (arith, homes-weigh f xs, sum_by-cons (weight f) (some (Some x)) (map some xs), sum_by-cons f x (values_in xs))

  pub length-mapped : (slots : List (Option T)) → length (map some slots) ≡ length slots
  length-mapped [] = refl
  length-mapped (x ∷ xs) = ap suc (length-mapped xs)

  pub mapped : (slots : List (Option T)) (k : ℕ) → k < length slots → get_elem? (map some slots) k ≡ some (some (get_or slots k None))
  mapped [] k l = absurd (omega arith)
  mapped (x ∷ xs) zero l = refl
  mapped (x ∷ xs) (suc k) l = mapped xs k (omega arith)

  none-in : (n : ℕ) → values_in {T = T} (replicate n None) ≡ []
  none-in zero = refl
  none-in (suc n) = none-in n

  -- one value more, and the unused slots after it
  pub value-more : (slots : List (Option T)) (x : T) → values_in (slots ++ Some x ∷ replicate 15 None) ≡ values_in slots ++ x ∷ []
  value-more slots x = filter_map-append (λ o. o) slots (Some x ∷ replicate 15 None) ∙ ap (λ r. values_in slots ++ x ∷ r) (none-in 15)

  pub no-value-yet : (slots : List (Option T)) → slots ≡ [] → values_in (slots ++ None ∷ replicate 15 None) ≡ []
  no-value-yet slots e = ap (λ r. values_in (r ++ None ∷ replicate 15 None)) e ∙ none-in 16

  -- what one slot more adds
  pub slot-more : (slots : List (Option T)) (o : Option T) → values_in (slots ++ o ∷ []) ≡ values_in slots ++ option_to_list o
  slot-more slots o = filter_map-append (λ o. o) slots (o ∷ []) ∙ ap (λ r. values_in slots ++ r) (alone o)
    where
      alone : (o : Option T) → values_in (o ∷ []) ≡ option_to_list o
      alone None = refl
      alone (Some x) = refl

  -- there is room for one value more of those in slots
  pub slot-fits : (slots : List (Option T)) (k : ℕ) (o : Option T) → get_elem? slots k ≡ some o
      → length (values_in (take k slots)) + length (option_to_list o) ≤ length (values_in slots)
  slot-fits [] k o e = absurd (some-ne-none o (sym e))
  slot-fits (None ∷ xs) zero o e = let n = ap (λ (p : Option T). length (option_to_list p)) (some-injective None o e) in omega arith
  slot-fits (Some x ∷ xs) zero o e = let n = ap (λ (p : Option T). length (option_to_list p)) (some-injective (Some x) o e) in omega arith
  slot-fits (None ∷ xs) (suc k) o e = slot-fits xs k o e
  slot-fits (Some x ∷ xs) (suc k) o e = omega (arith, slot-fits xs k o e)

  pub values-next : (slots : List (Option T)) (k : ℕ) (o : Option T) → get_elem? slots k ≡ some o
      → values_in (take (k + 1) slots) ≡ values_in (take k slots) ++ option_to_list o
  values-next slots k o e = ap values_in (take-next slots k o e) ∙ slot-more (take k slots) o

  -- one value of a reversed list is moved to the slots
  pub moves-one : (slots after : List (Option T)) (before rest all : List T) (x : T) → values_in slots ++ reverse before ≡ all
      → before ≡ rest ++ x ∷ []
      → after ≡ slots ++ Some x ∷ replicate 15 None → values_in after ++ reverse rest ≡ all
  moves-one slots after before rest all x was one more =
      ap (λ (s : List (Option T)). values_in s ++ reverse rest) more
      ∙ (ap (λ (v : List T). v ++ reverse rest) (value-more slots x)
      ∙ (append_assoc (values_in slots) (x ∷ []) (reverse rest)
      ∙ (ap (λ (v : List T). values_in slots ++ v) (sym (reverse-append rest (x ∷ [])))
      ∙ (ap (λ (v : List T). values_in slots ++ reverse v) (sym one) ∙ was))))

  pub places-one : (slots after : List (Option T)) (x : T) (n some_left fewer : ℕ) → some_left ≡ fewer + 1 → length slots + some_left * 16 ≡ spot n
      → after ≡ slots ++ Some x ∷ replicate 15 None → ((k : ℕ) → k + some_left < n → IsValue (get_or slots (spot k) None))
      → (k : ℕ) → k + fewer < n → IsValue (get_or after (spot k) None)
  places-one slots after x n some_left fewer one long more was k below =
      subst (λ (s : List (Option T)). IsValue (get_or s (spot k) None)) (sym more)
      (dite (ℕ_discrete (k + some_left) n)
      (λ e. (x, get_or_at slots (Some x) (replicate 15 None) None (spot k) (omega arith)))
      (λ ne. let w = was k (omega arith) in (w.0, get_or_append_left slots (Some x ∷ replicate 15 None) None (spot k) (omega arith) ∙ w.1)))

  -- one slot is moved to a reversed list
  pub takes-one : (before rest : List (Option T)) (into after : List T) (all : List T) (o : Option T) → values_in before ++ reverse into ≡ all
      → before ≡ rest ++ o ∷ []
      → after ≡ into ++ option_to_list o → values_in rest ++ reverse after ≡ all
  takes-one before rest into after all None was one more =
      ap (λ (v : List T). values_in rest ++ reverse v) (more ∙ append-nil into)
      ∙ (ap (λ (v : List T). v ++ reverse into) (sym (append-nil (values_in rest)) ∙ sym (slot-more rest None))
      ∙ (ap (λ (s : List (Option T)). values_in s ++ reverse into) (sym one) ∙ was))
  takes-one before rest into after all (Some x) was one more =
      ap (λ (v : List T). values_in rest ++ reverse v) more
      ∙ (ap (λ (v : List T). values_in rest ++ v) (reverse-append into (x ∷ []))
      ∙ (sym (append_assoc (values_in rest) (x ∷ []) (reverse into))
      ∙ (ap (λ (v : List T). v ++ reverse into) (sym (slot-more rest (Some x)))
      ∙ (ap (λ (s : List (Option T)). values_in s ++ reverse into) (sym one) ∙ was))))

  pub takes-room : (before rest : List (Option T)) (into all : List T) (o : Option T) → values_in before ++ reverse into ≡ all
      → before ≡ rest ++ o ∷ [] → length into + length (option_to_list o) ≤ length all
  takes-room before rest into all o was one =
      let a = ap (λ (v : List T). length v) was in
      let b = length-append (values_in before) (reverse into) in
      let c = length-reverse into in
      let d = ap (λ (s : List (Option T)). length (values_in s)) one in
      let e = ap (λ (v : List T). length v) (slot-more rest o) in
      let f = length-append (values_in rest) (option_to_list o) in
      omega arith
