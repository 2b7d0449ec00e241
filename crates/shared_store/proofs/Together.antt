-- What became of the kinds, put together.
use Rattle.std.proofs.Common.{◌≡◌, ◌+◌, ◌*◌, ◌<◌, ◌≤◌, ◌^◌, ℕ, List, [], ◌∷◌, All, length, refl, sym, subst, ◌∙◌, arith}
use Rattle.shared_cache.specs.declared.count.TheConstants.{MAX_HANDS}
use Rattle.std.specs.List.{sum_by}
use Rattle.std.proofs.lemmas.List.Elements.{All-head, All-tail}
use Rattle.std.proofs.lemmas.List.Sums.{sum_by-cons}
use Rattle.shared_row.specs.Views.{IsIdleAt, PassView, RowView}
use Rattle.shared_store.specs.Closing.{IsClosed}
use Rattle.shared_store.specs.Parting.{AreAlike, IsOnePass}
use Rattle.shared_store.specs.Stock.{StockView}
use Rattle.shared_store.specs.declared.totals.KindTotals.{KindTotals}

-- the totals of stocks are those of the same ones in another order
pub closed_alike : (stocks all : List StockView) (t : KindTotals) → AreAlike stocks all → IsClosed all t → IsClosed stocks t
closed_alike stocks all t alike is = record {
  allocs = is.allocs ∙ alike (λ s. s.hand.counts.allocs);
  frees = omega (arith, is.frees, alike (λ s. s.hand.counts.frees));
  nulls = is.nulls ∙ alike (λ s. s.hand.counts.nulls);
  busy = is.busy ∙ alike (λ s. s.hand.counts.busy);
  puts = is.puts ∙ alike (λ s. s.shelf_hand.puts);
  gets = is.gets ∙ alike (λ s. s.shelf_hand.gets);
  all_back = is.all_back;
  balance = is.balance;
  exchanged = is.exchanged;
  one = is.one;
}

module _ (arena : RowView) where
  pub all_idle : (passes : List PassView) → All (IsOnePass arena) passes → All (IsIdleAt arena.table) passes
  all_idle passes one = λ k d below. (one k d below).0

  -- passes are as many as they are parts
  pub all_parts : (passes : List PassView) → All (IsOnePass arena) passes → sum_by (λ p. p.parts) passes ≡ length passes
  all_parts [] one = refl
  all_parts (p ∷ ps) one =
      let first = (All-head (IsOnePass arena) p ps one).1 in
      omega (arith, first, sum_by-cons (λ (p : PassView). p.parts) p ps, all_parts ps (All-tail (IsOnePass arena) p ps one))

-- ---- numbers of lists that come one after another

pub same_few : (n m : ℕ) → m ≡ n → (0 < n) × (n ≤ MAX_HANDS) → (0 < m) × (m ≤ MAX_HANDS)
same_few n m same few = (subst (λ (k : ℕ). 0 < k) (sym same) few.0, subst (λ (k : ℕ). k ≤ MAX_HANDS) (sym same) few.1)

-- the seats of three kinds have room
pub first_fits : (n len cells room : ℕ) → len ≡ 0 → cells ≡ n → 3 * n ≤ room → len + cells ≤ room
first_fits n len cells room none same fits = omega (arith, none, same, fits)

pub second_fits : (n len cells records len' room room' : ℕ) → len ≡ 0 → cells ≡ n → records ≡ n → len' ≡ len + cells → room' ≡ room → 3 * n ≤ room → len' + records ≤ room'
second_fits n len cells records len' room room' none same next after still fits = omega (arith, none, same, next, after, still, fits)

pub third_fits : (n len cells records blocks len' len'' room room' room'' : ℕ) → len ≡ 0 → cells ≡ n → records ≡ n → blocks ≡ n → len' ≡ len + cells
    → len'' ≡ len' + records → room' ≡ room → room'' ≡ room' → 3 * n ≤ room → len'' + blocks ≤ room''
third_fits n len cells records blocks len' len'' room room' room'' none same next last after later still again fits =
    omega (arith, none, same, next, last, after, later, still, again, fits)

-- counts of three kinds fit a word
pub two_add : (a b : ℕ) → a ≤ MAX_HANDS * 2 ^ 56 → b ≤ MAX_HANDS * 2 ^ 56 → a + b < 2 ^ 64
two_add a b x y = omega (arith, x, y)

pub three_add : (a b d : ℕ) → a ≤ MAX_HANDS * 2 ^ 56 → b ≤ MAX_HANDS * 2 ^ 56 → d ≤ MAX_HANDS * 2 ^ 56 → a + b + d < 2 ^ 64
three_add a b d x y z = omega (arith, x, y, z)
