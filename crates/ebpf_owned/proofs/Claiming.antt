-- What claims and fetches do to what a seat noted.
use Rattle.std.proofs.Common.{◌≡◌, ℕ, ◌+◌, ◌<◌, false, List, [], ◌∷◌, ◌++◌, ap, ◌∙◌, ◌≢◌, arith}
use Rattle.std.specs.Prelude.{if◌then◌else◌, ◌==◌, not}
use Rattle.std.proofs.lemmas.Bool.Decides.{nat_tests}
use Rattle.std.proofs.lemmas.List.Sums.{sum_by-append}
use Rattle.owners_table.specs.Owning.{SeatView, owner_word}
use Rattle.owners_table.specs.declared.mark.Owner.{Owner}
use Rattle.owners_table.specs.declared.mark.Owner.TheVariants.{Run, Shelf}
use Rattle.ebpf_owned.specs.Claims.{lost, HasFound, HasFetched}

abbrev lost_at : ℕ → ℕ
lost_at found = if not (found == 0) then 1 else 0

lost-append : (slot found : ℕ) (notes : List (ℕ × ℕ)) → lost (notes ++ (slot, found) ∷ []) ≡ lost notes + lost_at found
lost-append slot found notes = let a = sum_by-append (λ (n : ℕ × ℕ). if not (n.1 == 0) then 1 else 0) notes ((slot, found) ∷ []) in omega arith

-- a claim that found the slot free
pub lost_as_before : (slot : ℕ) (notes : List (ℕ × ℕ)) → lost (notes ++ (slot, 0) ∷ []) ≡ lost notes
lost_as_before slot notes = let a = lost-append slot 0 notes in omega arith

positive : (n : ℕ) → 0 < n → (n == 0) ≡ false
positive n some = grind (arith, nat_tests)

lost_at-owner : (owner : Owner) → lost_at (owner_word owner) ≡ 1
lost_at-owner (Run mark) = ap (λ b. if not b then 1 else 0) (positive (owner_word (Run mark)) (omega arith))
lost_at-owner (Shelf shelf) = ap (λ b. if not b then 1 else 0) (positive (owner_word (Shelf shelf)) (omega arith))

-- a claim that found an owner
pub lost_one_more : (slot : ℕ) (owner : Owner) (notes notes' : List (ℕ × ℕ)) → notes' ≡ notes ++ (slot, owner_word owner) ∷ [] → lost notes' ≡ lost notes + 1
lost_one_more slot owner notes notes' is =
    let a = lost-append slot (owner_word owner) notes in
    let o = lost_at-owner owner in
    let l = ap lost is in
    omega arith

positive_word : (owner : Owner) → owner_word owner ≢ 0
positive_word (Run mark) is = omega (arith, is)
positive_word (Shelf shelf) is = omega (arith, is)

-- it is noted so
pub found_owner : (s slot : ℕ) (owner : Owner) (notes notes' : List (ℕ × ℕ)) → s ≡ slot → notes' ≡ notes ++ (s, owner_word owner) ∷ []
    → HasFound slot notes notes'
found_owner s slot owner notes notes' same is =
    (owner_word owner, positive_word owner, is ∙ ap (λ (k : ℕ). notes ++ (k, owner_word owner) ∷ []) same)

-- fetches one after another
pub fetched_on : (a b : ℕ) (s t u : SeatView) → HasFetched a s t → HasFetched b t u → HasFetched (a + b) s u
fetched_on a b s t u x y = record {
  table = y.table ∙ x.table;
  held = y.held ∙ x.held;
  tries = omega (arith, x.tries, y.tries);
  notes = y.notes ∙ x.notes;
  fetches = omega (arith, x.fetches, y.fetches);
  shelved = y.shelved ∙ x.shelved;
}
