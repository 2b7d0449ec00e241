-- What a hand is after an exchange.
use Rattle.std.proofs.Common.{◌≡◌, ℕ, ◌+◌, [], ◌∷◌, sym, ap, ◌∙◌}
use Rattle.std.specs.Prelude.{◌%◌, ◌^◌, Option, None}
use Rattle.std.proofs.Math.Nat.{mod-add-mod}
use Rattle.atomic_table.specs.Table.{Me, rest}
use Rattle.shared_row.proofs.Lists.{first-value}
use Rattle.exchange_shelf.specs.declared.passing.Sheet.{Sheet}
use Rattle.exchange_shelf.specs.Passing.{one_if, after_swap}

-- the hand has the slot that was found, which is empty once what is there was read
pub swaps : {T : Type 0} (first middle after last : Me (Option T) Sheet) (given got : Option T) (found : ℕ) → middle.0 ≡ first.0
    → (y : Option T) × (after ≡ (after_swap middle.0 (one_if given) (one_if y) found, (found, y) ∷ []))
    → after.1 ≡ (found, got) ∷ rest after.1 → last ≡ (after.0, (found, None) ∷ rest after.1)
    → (last.0 ≡ after_swap first.0 (one_if given) (one_if got) found) × (last.1 ≡ (found, None) ∷ [])
swaps first middle after last given got found same told has is =
    let read : told.0 ≡ got = first-value (sym (ap (λ m. m.1) told.1) ∙ has) in (
      ap (λ m. m.0) is ∙ (ap (λ m. m.0) told.1 ∙ λ i. after_swap (same i) (one_if given) (one_if (read i)) found),
      ap (λ m. m.1) is ∙ ap (λ r. (found, None) ∷ rest r) (ap (λ m. m.1) told.1),
    )

-- a number without what is past 2^64, and one more
pub counts-more : (number count more now sum : ℕ) → now ≡ (number + more) % 2 ^ 64 → number ≡ count % 2 ^ 64
    → sum ≡ count + more → now ≡ sum % 2 ^ 64
counts-more number count more now sum is was total =
    is ∙ (ap (λ (n : ℕ). (n + more) % 2 ^ 64) was ∙ (mod-add-mod count (2 ^ 64) more ∙ ap (λ (n : ℕ). n % 2 ^ 64) (sym total)))
