-- Hands of one kind, and those that no worker has.
use Rattle.std.specs.Prelude.{◌≡◌, ◌≤◌, ◌<◌, ◌+◌, ◌-◌, ◌^◌, ℕ, List, [], ◌∷◌, ◌++◌, All, length, map, sum_by, vec_len, vec_capacity}
use Rattle.object_cache.specs.HandView.{fresh}
use Rattle.object_cache.specs.ShelfView.{new_hand}
use Rattle.worker_pool.specs.declared.hands.HandPair.{HandPair}
use Rattle.worker_pool.specs.declared.hands.FreePairs.{FreePairs}

-- that many, each like this one
pub record AreAlike {X : Type 0} (count : ℕ) (one : X) (xs : List X) : Type 0 where
  pub all : length xs ≡ count
  pub unused : All (λ x. x ≡ one) xs

-- ---- of one kind

module _ {K L : Type 0} where
  -- hands with which nothing was done
  abbrev pub unused_pair : HandPair K L
  unused_pair = record { hand = fresh; shelf_hand = new_hand }

  -- that many pairs, with which nothing was done
  pub record AreUnused (count : ℕ) (f : FreePairs K L) : Type 0 where
    pub hands : AreAlike count fresh f.hands.items
    pub shelf_hands : AreAlike count new_hand f.shelf_hands.items

  -- memory for that many pairs
  pub record HasRoom (count : ℕ) (f : FreePairs K L) : Type 0 where
    pub hands : count ≤ vec_capacity f.hands
    pub shelf_hands : count ≤ vec_capacity f.shelf_hands

  -- no pairs
  pub record HasNone (f : FreePairs K L) : Type 0 where
    pub hands : f.hands.items ≡ []
    pub shelf_hands : f.shelf_hands.items ≡ []

  -- no pairs, and memory for that many
  pub record IsNone (count : ℕ) (f : FreePairs K L) : Type 0 where
    pub none : HasNone f
    pub room : HasRoom count f

  -- there is a pair
  pub record HasHand (f : FreePairs K L) : Type 0 where
    pub hands : 0 < vec_len f.hands
    pub shelf_hands : 0 < vec_len f.shelf_hands

  -- there is memory for a pair more
  pub record HasPlace (f : FreePairs K L) : Type 0 where
    pub hands : vec_len f.hands < vec_capacity f.hands
    pub shelf_hands : vec_len f.shelf_hands < vec_capacity f.shelf_hands

  -- the pair is the last of the second list, which is the first one otherwise
  pub record IsOneMore (f f' : FreePairs K L) (p : HandPair K L) : Type 0 where
    pub hands : f'.hands.items ≡ f.hands.items ++ p.hand ∷ []
    pub shelf_hands : f'.shelf_hands.items ≡ f.shelf_hands.items ++ p.shelf_hand ∷ []
    pub capacity : vec_capacity f'.hands ≡ vec_capacity f.hands
    pub shelf_capacity : vec_capacity f'.shelf_hands ≡ vec_capacity f.shelf_hands

  -- the pairs are what is made of these, in order
  pub record AreMadeOf {W : Type 0} (pair_of : W → HandPair K L) (ws : List W) (f : FreePairs K L) : Type 0 where
    pub hands : f.hands.items ≡ map (λ w. (pair_of w).hand) ws
    pub shelf_hands : f.shelf_hands.items ≡ map (λ w. (pair_of w).shelf_hand) ws

  -- How many objects of a kind are out by its hands' doing, counted from 2^57 on: of frees and of puts there are at most 2^56, and of
  -- a store's counts only what they grow by is said.
  abbrev pub out_of : HandPair K L → ℕ
  out_of p = (p.hand.allocs + p.shelf_hand.gets + 2 ^ 57) - (p.hand.frees + p.shelf_hand.puts)

  -- what the hands took from the cache and got from the shelf went back there or onto the shelf
  abbrev pub IsEvenPair : HandPair K L → Type 0
  IsEvenPair p = p.hand.frees + p.shelf_hand.puts ≡ p.hand.allocs + p.shelf_hand.gets

  -- how often hands were given an object, and how often they were refused one
  abbrev pub allocs_by : FreePairs K L → ℕ
  allocs_by f = sum_by (λ h. h.allocs) f.hands.items

  abbrev pub nulls_by : FreePairs K L → ℕ
  nulls_by f = sum_by (λ h. h.nulls) f.hands.items

  -- how often objects were got off shelves
  abbrev pub gets_by : FreePairs K L → ℕ
  gets_by f = sum_by (λ h. h.gets) f.shelf_hands.items

  -- what the hands took from the cache and got from the shelf went back there or onto the shelf
  pub record AreEven (count : ℕ) (f : FreePairs K L) : Type 0 where
    pub all : length f.hands.items ≡ count
    pub all_shelf : length f.shelf_hands.items ≡ count
    pub even : sum_by (λ h. h.frees) f.hands.items + sum_by (λ h. h.puts) f.shelf_hands.items ≡ allocs_by f + gets_by f
