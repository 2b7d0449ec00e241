-- Pairs of hands of one kind: one more, one less, and all that were made.
use Rattle.std.proofs.Common.{◌≡◌, ◌≤◌, ◌<◌, ◌+◌, ◌-◌, ◌^◌, ℕ, All, List, [], ◌∷◌, ◌++◌, length, map, sym, ap, subst, ◌∙◌, arith, length-append}
use Rattle.std.specs.Prelude.{reverse, sum_by, vec_len, vec_capacity}
use Rattle.std.proofs.lemmas.List.{map_push, length-map}
use Rattle.std.proofs.lemmas.List.Elements.{All-push}
use Rattle.owners_table.proofs.Joining.{all_front, all_last}
use Rattle.object_cache.specs.HandView.{HandView, fresh}
use Rattle.object_cache.specs.ShelfView.{ShelfHandView, new_hand}
use Rattle.object_cache.specs.declared.totals.Totals.{Totals}
use Rattle.worker_pool.specs.declared.outcome.ShelfTotals.{ShelfTotals}
use Rattle.worker_pool.specs.declared.supply.Supply.{Supply}
use Rattle.worker_pool.specs.Outcomes.{IsEvenShelf, IsEvenTotal}
use Rattle.worker_pool.specs.Supplies.{HasMade, IsClosed, IsOpened}
use Rattle.worker_pool.proofs.Shares.{part_len, part_sum, sum_even}
use Rattle.worker_pool.specs.declared.hands.HandPair.{HandPair}
use Rattle.worker_pool.specs.declared.hands.FreePairs.{FreePairs}
use Rattle.worker_pool.specs.Hands.{AreAlike, AreEven, AreUnused, AreMadeOf, HasHand, HasRoom, HasPlace, IsEvenPair, IsOneMore, out_of, unused_pair}

pub at_most : (n old new : ℕ) → n ≤ old → new ≡ old → n ≤ new
at_most n old new fits same = omega (arith, fits, same)

-- a list of what is left of that many is one shorter after its last is taken
module _ {X : Type 0} (P : X → Type 0) (count done : ℕ) (xs ys : List X) (x : X) (is : xs ≡ ys ++ x ∷ []) (some : done < count)
    (len : length xs ≡ count - done) (all : All P xs) where
  pub rest_len : length ys ≡ count - (done + 1)
  rest_len =
      let sum = ap length is ∙ length-append ys (x ∷ []) in
      omega (arith, sum, len, some)

  pub rest_all : All P ys
  rest_all = all_front P ys x (subst (All P) is all)

  pub last_is : P x
  last_is = all_last P ys x (subst (All P) is all)

-- one more after what is made of each
pub pushed : {X Y : Type 0} (f : X → Y) (done : List X) (w : X) (y : Y) (xs ys : List Y) → xs ≡ map f done → ys ≡ xs ++ y ∷ []
    → f w ≡ y → ys ≡ map f (done ++ w ∷ [])
pushed f done w y xs ys are is same = is ∙ ap (λ l. l ++ y ∷ []) are ∙ ap (λ v. map f done ++ v ∷ []) (sym same) ∙ sym (map_push f done w)

alike_more : {X : Type 0} (one x : X) (count : ℕ) (xs ys : List X) → AreAlike count one xs → ys ≡ xs ++ x ∷ [] → x ≡ one → AreAlike (count + 1) one ys
alike_more one x count xs ys are is same = record {
  all = ap length is ∙ length-append xs (x ∷ []) ∙ ap (λ n. n + 1) are.all;
  unused = subst (All (λ y. y ≡ one)) (sym is) (All-push (λ y. y ≡ one) xs x are.unused same);
}

alike_rest : {X : Type 0} (one x : X) (count done : ℕ) (xs ys : List X) → done < count → AreAlike (count - done) one xs
    → xs ≡ ys ++ x ∷ [] → AreAlike (count - (done + 1)) one ys
alike_rest one x count done xs ys some are is = record {
  all = rest_len (λ y. y ≡ one) count done xs ys x is some are.all are.unused;
  unused = rest_all (λ y. y ≡ one) count done xs ys x is some are.all are.unused;
}

-- what is parted from the workers so far leaves room for one worker's more
pub fits : {A W : Type 0} (items : List A) (f : W → A) (done left rest : List W) (w : W) (n all room : ℕ) → n ≡ length items
    → items ≡ map f done → length done + length left ≡ all → left ≡ rest ++ w ∷ [] → all ≤ room → n < room
fits items f done left rest w n all room many are sum is holds =
    let same = ap length are ∙ length-map done f in
    let more = ap length is ∙ length-append rest (w ∷ []) in
    omega (arith, many, same, sum, more, holds)

module _ {K L : Type 0} where
  pub one_unused : (count : ℕ) (f f' : FreePairs K L) (p : HandPair K L) → AreUnused count f → IsOneMore f f' p → p.hand ≡ fresh
      → p.shelf_hand ≡ new_hand → AreUnused (count + 1) f'
  one_unused count f f' p are more hand shelf_hand = record {
    hands = alike_more fresh p.hand count f.hands.items f'.hands.items are.hands more.hands hand;
    shelf_hands = alike_more new_hand p.shelf_hand count f.shelf_hands.items f'.shelf_hands.items are.shelf_hands more.shelf_hands shelf_hand;
  }

  pub same_room : (count : ℕ) (f f' : FreePairs K L) (p : HandPair K L) → HasRoom count f → IsOneMore f f' p → HasRoom count f'
  same_room count f f' p room more = record {
    hands = at_most count _ _ room.hands more.capacity;
    shelf_hands = at_most count _ _ room.shelf_hands more.shelf_capacity;
  }

  -- memory for all of them is memory for one more
  pub has_place : (n count : ℕ) (f : FreePairs K L) → n < count → AreUnused n f → HasRoom count f → HasPlace f
  has_place n count f below are room = record {
    hands = omega (arith, f.hands.ok.0, are.hands.all, room.hands, below);
    shelf_hands = omega (arith, f.shelf_hands.ok.0, are.shelf_hands.all, room.shelf_hands, below);
  }

  pub room_before : (count : ℕ) (f f' : FreePairs K L) (p : HandPair K L) → HasRoom count f' → IsOneMore f f' p → HasRoom count f
  room_before count f f' p room more = record {
    hands = at_most count _ _ room.hands (sym more.capacity);
    shelf_hands = at_most count _ _ room.shelf_hands (sym more.shelf_capacity);
  }

  pub rest_unused : (count done : ℕ) (f f' : FreePairs K L) (p : HandPair K L) → done < count → AreUnused (count - done) f'
      → IsOneMore f f' p → AreUnused (count - (done + 1)) f
  rest_unused count done f f' p some are more = record {
    hands = alike_rest fresh p.hand count done f'.hands.items f.hands.items some are.hands more.hands;
    shelf_hands = alike_rest new_hand p.shelf_hand count done f'.shelf_hands.items f.shelf_hands.items some are.shelf_hands more.shelf_hands;
  }

  pub last_unused : (count done : ℕ) (f f' : FreePairs K L) (p : HandPair K L) → done < count → AreUnused (count - done) f' → IsOneMore f f' p → p ≡ unused_pair
  last_unused count done f f' p some are more =
      let hand : p.hand ≡ fresh = last_is (λ h. h ≡ fresh) count done f'.hands.items f.hands.items p.hand more.hands some are.hands.all are.hands.unused in
      let shelf_hand : p.shelf_hand ≡ new_hand = last_is (λ h. h ≡ new_hand) count done f'.shelf_hands.items f.shelf_hands.items p.shelf_hand more.shelf_hands some are.shelf_hands.all are.shelf_hands.unused in
      ap (λ h. record { hand = h; shelf_hand = p.shelf_hand }) hand ∙ ap (λ s. record { hand = fresh; shelf_hand = s }) shelf_hand

  pub made_more : {W : Type 0} (g : W → HandPair K L) (done : List W) (w : W) (f f' : FreePairs K L) (p : HandPair K L)
      → AreMadeOf g done f → IsOneMore f f' p → g w ≡ p → AreMadeOf g (done ++ w ∷ []) f'
  made_more g done w f f' p are more same = record {
    hands = pushed (λ v. (g v).hand) done w _ _ _ are.hands more.hands (ap (λ (q : HandPair K L). q.hand) same);
    shelf_hands = pushed (λ v. (g v).shelf_hand) done w _ _ _ are.shelf_hands more.shelf_hands (ap (λ (q : HandPair K L). q.shelf_hand) same);
  }

  -- what is parted from the workers so far leaves room for one pair more
  pub place_left : {W : Type 0} (g : W → HandPair K L) (done left rest : List W) (w : W) (all : ℕ) (f : FreePairs K L) → AreMadeOf g done f
      → length done + length left ≡ all → left ≡ rest ++ w ∷ [] → HasRoom all f → HasPlace f
  place_left g done left rest w all f made sum is room = record {
    hands = fits f.hands.items (λ v. (g v).hand) done left rest w (vec_len f.hands) all (vec_capacity f.hands) f.hands.ok.0 made.hands sum is room.hands;
    shelf_hands = fits f.shelf_hands.items (λ v. (g v).shelf_hand) done left rest w (vec_len f.shelf_hands) all (vec_capacity f.shelf_hands)
        f.shelf_hands.ok.0 made.shelf_hands sum is room.shelf_hands;
  }

  -- the hands that came back are those that were made, and there are some
  module _ (count n : ℕ) (s : Supply K L) (f f' : FreePairs K L) (opened : IsOpened count s f) (even : AreEven n f') where
    pub has_made : n ≡ count → HasMade s f'
    has_made same = record {
      hands = omega (arith, f'.hands.ok.0, even.all, same, opened.made);
      shelf_hands = omega (arith, f'.shelf_hands.ok.0, even.all_shelf, same, opened.shelf_made);
    }

    pub has_hand : 0 < n → HasHand f'
    has_hand some = record {
      hands = omega (arith, f'.hands.ok.0, even.all, some);
      shelf_hands = omega (arith, f'.shelf_hands.ok.0, even.all_shelf, some);
    }

  -- each pair is even, and so are they together
  module _ {W : Type 0} (pair_of : W → HandPair K L) (ws : List W) (f : FreePairs K L) (made : AreMadeOf pair_of (reverse ws) f) where
    pub sum_hands : (h : HandView → ℕ) → sum_by h f.hands.items ≡ sum_by (λ w. h (pair_of w).hand) ws
    sum_hands h = part_sum (λ w. (pair_of w).hand) ws f.hands.items made.hands h

    pub sum_shelf_hands : (h : ShelfHandView → ℕ) → sum_by h f.shelf_hands.items ≡ sum_by (λ w. h (pair_of w).shelf_hand) ws
    sum_shelf_hands h = part_sum (λ w. (pair_of w).shelf_hand) ws f.shelf_hands.items made.shelf_hands h

    pub even_pairs : (count : ℕ) → length ws ≡ count → All (λ w. IsEvenPair (pair_of w)) ws → AreEven count f
    even_pairs count len each = record {
      all = part_len (λ w. (pair_of w).hand) ws f.hands.items made.hands ∙ len;
      all_shelf = part_len (λ w. (pair_of w).shelf_hand) ws f.shelf_hands.items made.shelf_hands ∙ len;
      even =
          let sums = sum_even (λ w. (pair_of w).hand.frees) (λ w. (pair_of w).shelf_hand.puts) (λ w. (pair_of w).hand.allocs) (λ w. (pair_of w).shelf_hand.gets) ws each in
          omega (arith, sums, sum_hands (λ h. h.frees), sum_shelf_hands (λ h. h.puts), sum_hands (λ h. h.allocs), sum_shelf_hands (λ h. h.gets));
    }

  -- a cache that is closed over even pairs got back what it gave
  module _ (count : ℕ) (f : FreePairs K L) (shelf : ShelfTotals) (t : Totals) (even : AreEven count f) (closed : IsClosed f shelf t) where
    pub even_total : IsEvenTotal t
    even_total =
        let same : t.frees ≡ t.allocs = omega (arith, closed.frees, closed.allocs, even.even, closed.puts, closed.gets, closed.shelf_balance) in
        record { back = same; none_missing = omega (arith, same, closed.balance) }

    pub even_shelf : IsEvenShelf shelf
    even_shelf = record { balance = closed.shelf_balance; one = closed.one }

  -- what a pair of hands gave away is few
  abbrev AreFew : HandPair K L → Type 0
  AreFew p = (p.hand.frees ≤ 2 ^ 56) × (p.shelf_hand.puts ≤ 2 ^ 56)

  pub one_even : (p p' : HandPair K L) → AreFew p → AreFew p' → out_of p' ≡ out_of p → IsEvenPair p → IsEvenPair p'
  one_even p p' few few' same even = omega (arith, few.0, few.1, few'.0, few'.1, same, even)
