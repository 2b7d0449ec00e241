-- The rule of the owners holds at the start, and a seat with all sheets deals them out.
use Rattle.std.proofs.Common.{◌≡◌, ℕ, zero, suc, ◌<◌, [], ◌∷◌, get_or, replicate, refl, arith}
use Rattle.std.proofs.lemmas.List.{length-replicate}
use Rattle.std.proofs.lemmas.List.Folds.{sum_by-replicate}
use Rattle.owners_table.specs.Owning.{Owned, blank, by_place, weigh_words, weigh_shelves}
use Rattle.owners_table.specs.Place.{words_in}
use Rattle.owners_table.proofs.Lists.{word-none, shelf-free}
use Rattle.owners_table.proofs.OwningSteps.{listed, put, taken}

words-zero : (h : ℕ → ℕ → ℕ) (k n : ℕ) → weigh_words h k (replicate n 0) ≡ 0
words-zero h k zero = refl
words-zero h k (suc n) = let z = word-none h k 0 (omega arith) in omega (arith, words-zero h (suc k) n)

shelves-zero : (h : ℕ → ℕ → ℕ) (k n : ℕ) → weigh_shelves h k (replicate n 0) ≡ 0
shelves-zero h k zero = refl
shelves-zero h k (suc n) = let z = shelf-free h k in omega (arith, shelves-zero h (suc k) n)

abbrev nought : ℕ
nought = 0

zeros : (n i : ℕ) → get_or (replicate n nought) i nought ≡ nought
zeros zero i = refl
zeros (suc n) zero = refl
zeros (suc n) (suc i) = zeros n i

-- all slots are free, and one seat has all sheets
pub begins : (slots seats : ℕ) → Owned slots seats record { words = replicate (words_in slots) 0; homes = []; views = replicate seats blank ∷ [] }
begins slots seats = record {
  wide = length-replicate (words_in slots) 0;
  spare = λ place _. zeros (words_in slots) place;
  words = λ place high. absurd (none place (omega (arith, high)));
  sheets = let l = length-replicate seats blank in omega (arith, l);
  listed = λ h. let z = words-zero (by_place h) 0 (words_in slots) in let s = sum_by-replicate (listed h) seats blank in omega (arith, z, s);
  shelved = λ h. let z = shelves-zero (by_place h) 0 (words_in slots) in let s = sum_by-replicate (put h) seats blank in let t = sum_by-replicate (taken h) seats blank in omega (arith, z, s, t);
}
  where
    none : (place : ℕ) → 0 < get_or (replicate (words_in slots) 0) place 0 → ⊥
    none place some = let z = zeros (words_in slots) place in let some' : nought < get_or (replicate (words_in slots) nought) place nought = some in omega (arith, z, some')
