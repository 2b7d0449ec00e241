-- How many words of a table are a run's.
use Rattle.std.proofs.Common.{◌≡◌, ℕ, zero, suc, ◌+◌, ◌<◌, ◌≤◌, ◌^◌, List, [], ◌∷◌, length, take, All, sym, refl, ap, ◌∙◌, arith}
use Rattle.std.proofs.lemmas.List.{take_all}
use Rattle.std.proofs.lemmas.List.Sums.{sum_by-cons}
use mathlib.Core.Logic.{dite}
use native.Mathlib.Decide.{dec_le}
use mathlib.Core.Option.{some, some-injective, some-ne-none}
use lib.ListN.{get_elem?}
use Rattle.owners_table.specs.Owning.{IsLeft, OwnersView, SeatView, held_by, weigh, weigh_word, weigh_words}
use Rattle.owners_table.specs.Place.{slot_at, words_in}
use Rattle.owners_table.proofs.Lists.{word-none, word-some}
use Rattle.owners_table.proofs.OwningEnd.{all-empty, elem-get_or}

-- each counts one
abbrev pub one : ℕ → ℕ → ℕ
one slot w = 1

-- how many of the first n words are a run's
abbrev pub runs_in : ℕ → List ℕ → ℕ
runs_in n ws = weigh_words one 0 (take n ws)

pub entries_counted : (es : List (ℕ × ℕ)) → weigh one es ≡ length es
entries_counted [] = refl
entries_counted (e ∷ es) = omega (arith, sum_by-cons (λ (e : ℕ × ℕ). 1) e es, entries_counted es)

-- one word more
pub next_word : (k : ℕ) (ws : List ℕ) (i w : ℕ) → get_elem? ws i ≡ some w
    → weigh_words one k (take (suc i) ws) ≡ weigh_words one k (take i ws) + weigh_word one 0 w
next_word k [] i w e = absurd (some-ne-none w (sym e))
next_word k (x ∷ ws) zero w e = omega (arith, ap (λ (z : ℕ). weigh_word one 0 z) (some-injective x w e))
next_word k (x ∷ ws) (suc i) w e = omega (arith, next_word (suc k) ws i w e)

pub counts_run : (n owned w : ℕ) (ws : List ℕ) → owned ≡ runs_in n ws → get_elem? ws n ≡ some w → 4096 ≤ w → owned + 1 ≡ runs_in (n + 1) ws
counts_run n owned w ws counted at run = let e : suc n ≡ n + 1 = omega arith in
    omega (arith, counted, next_word 0 ws n w at, word-some one 0 w run) ∙ ap (λ (k : ℕ). runs_in k ws) e

pub counts_other : (n owned w : ℕ) (ws : List ℕ) → owned ≡ runs_in n ws → get_elem? ws n ≡ some w → w < 4096 → owned ≡ runs_in (n + 1) ws
counts_other n owned w ws counted at free = let e : suc n ≡ n + 1 = omega arith in
    omega (arith, counted, next_word 0 ws n w at, word-none one 0 w free) ∙ ap (λ (k : ℕ). runs_in k ws) e

-- slots have fewer than 2^32 places
few_places : (slots at : ℕ) → slots < 2 ^ 32 → at < words_in slots → slot_at at < slots → at + 1 < 2 ^ 32
few_places slots at few within below = omega arith

-- ---- a table that was closed

module _ (o : OwnersView) (seats : List SeatView) (ws : List ℕ) (left : IsLeft o seats ws) where
  -- the place of a run's word
  pub run_place : (at w : ℕ) → o.slots < 2 ^ 32 → at < words_in o.slots → get_elem? ws at ≡ some w → 4096 ≤ w → at + 1 < 2 ^ 32
  run_place at w few within is run = few_places o.slots at few within (dite (dec_le o.slots (slot_at at))
      (λ out. absurd (omega (arith, left.spare at out, elem-get_or ws at w is, run)))
      (λ inside. omega (arith, inside)))

  module _ (n owned : ℕ) (end : words_in o.slots ≤ n) (counted : owned ≡ runs_in n ws) where
    -- all were counted
    all_runs : owned ≡ weigh_words one 0 ws
    all_runs = counted ∙ ap (weigh_words one 0) (take_all n ws (omega (arith, left.wide, end)))

    pub some_held : length (held_by seats) ≤ owned
    some_held = omega (arith, all_runs, left.some one, entries_counted (held_by seats))

    pub all_held : length seats ≡ o.seats → owned ≡ length (held_by seats)
    all_held whole = omega (arith, all_runs, left.all whole one, entries_counted (held_by seats))

    pub none_held : length seats ≡ o.seats → All (λ s. s.held ≡ []) seats → owned ≡ 0
    none_held whole none = all_held whole ∙ ap length (all-empty seats none)
