-- A shelf and its hands as their callers see them, and what they keep.
use Rattle.std.specs.Prelude.{◌≡◌, ℕ, ◌^◌, ◌<◌, ◌≤◌, List, length, slice_index_or, Option, Some, None, IsSome}
use Rattle.object_cache.specs.declared.count.TheConstants.{MAX_HANDS}

-- how many hands were made
pub record ShelfView : Type 0 where
  pub hands : ℕ

-- how often an object was put on the shelf by it, and got from there
pub record ShelfHandView : Type 0 where
  pub puts : ℕ
  pub gets : ℕ

-- a hand that has done nothing
abbrev pub new_hand : ShelfHandView
new_hand = record { puts = 0; gets = 0 }

-- one object, or none
abbrev pub one_if : {X : Type 0} → Option X → ℕ
one_if None = 0
one_if (Some x) = 1

-- a hand has one part of each book, which count what it counts
pub record IsShelfHand (h : ShelfHandView) (put_parts puts get_parts gets : ℕ) : Type 0 where
  pub one_put : put_parts ≡ 1
  pub one_get : get_parts ≡ 1
  pub puts_are : puts ≡ h.puts
  pub gets_are : gets ≡ h.gets
  pub few_puts : h.puts ≤ 2 ^ 56
  pub few_gets : h.gets ≤ 2 ^ 56

-- there is a part of the books for each hand that isn't made yet
pub record HasSpares {X : Type 0} (hands : ℕ) (spares : List (Option X)) : Type 0 where
  pub wide : length spares ≡ MAX_HANDS
  pub each : (k : ℕ) → hands ≤ k → k < MAX_HANDS → IsSome (slice_index_or spares k None)
