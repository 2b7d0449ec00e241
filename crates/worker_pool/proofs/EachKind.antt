-- What there is of each kind: in one place all that a kind more would touch.
use Rattle.std.proofs.Common.{◌≡◌, ◌<◌, ◌+◌, ◌-◌, ℕ, zero, suc, All, List, [], ◌∷◌, ◌++◌, length, sym, ap, ◌∙◌, subst, arith}
use Rattle.std.specs.Prelude.{reverse, sum_by}
use Rattle.std.proofs.lemmas.List.Sums.{sum_by-cons}
use Rattle.object_cache.specs.HandView.{HandView}
use Rattle.object_cache.specs.declared.totals.Totals.{Totals}
use Rattle.owners_table.specs.Owning.{OwnersView, SeatView}
use Rattle.worker_pool.specs.declared.each_kind.FreeHands.{FreeHands}
use Rattle.worker_pool.specs.declared.each_kind.Hands.{Hands}
use Rattle.worker_pool.specs.declared.each_kind.Stocks.{Stocks}
use Rattle.worker_pool.specs.declared.each_kind.Supplies.{Supplies}
use Rattle.worker_pool.specs.declared.outcome.ShelfTotals.{ShelfTotals}
use Rattle.worker_pool.specs.EachKind.{AllAreEven, AllAreMadeOf, AllAreUnused, AreClosed, AreNone, AreOneMore, AreOpened, HaveHands, HaveMade}
use Rattle.worker_pool.specs.EachKind.{HavePlaces, HaveRoom, IsEven, all_allocs, all_frees, all_gets, all_nulls, all_puts, free_allocs, free_gets}
use Rattle.worker_pool.specs.EachKind.{free_nulls, hands_of, outs_of, unused_hands}
use Rattle.worker_pool.specs.Hands.{unused_pair}
use Rattle.worker_pool.specs.Outcomes.{IsEvenShelf, IsEvenTotal, allocs_in, gets_in, left_in, nulls_in}
use Rattle.worker_pool.proofs.Pairs.{even_pairs, even_shelf, even_total, has_hand, has_made, place_left, last_unused, made_more, one_even}
use Rattle.worker_pool.proofs.Pairs.{rest_unused, room_before, same_room, sum_hands, sum_shelf_hands}
use Rattle.worker_pool.proofs.Shares.{three_sums}

all_three : {X : Type 0} (P : X → Type 0) (a b c : X) → P a → P b → P c → All P (a ∷ b ∷ c ∷ [])
all_three P a b c pa pb pc zero d l = pa
all_three P a b c pa pb pc (suc zero) d l = pb
all_three P a b c pa pb pc (suc (suc zero)) d l = pc
all_three P a b c pa pb pc (suc (suc (suc k))) d l = absurd (omega (arith, l))

sum_three : {X : Type 0} (h : X → ℕ) (a b c : X) → sum_by h (a ∷ b ∷ c ∷ []) ≡ h a + h b + h c
sum_three h a b c = omega (arith, sum_by-cons h a (b ∷ c ∷ []), sum_by-cons h b (c ∷ []), sum_by-cons h c [])

pub left_three : (a b c : ShelfTotals) → left_in (a ∷ b ∷ c ∷ []) ≡ a.left + b.left + c.left
left_three = sum_three (λ (t : ShelfTotals). t.left)

-- ---- hands that come and go

module _ {L : Type 0} where
  pub same_rooms : (count : ℕ) (f f' : FreeHands L) (h : Hands L) → HaveRoom count f → AreOneMore f f' h → HaveRoom count f'
  same_rooms count f f' h room more = record {
    cells = same_room count _ _ _ room.cells more.cells;
    records = same_room count _ _ _ room.records more.records;
    blocks = same_room count _ _ _ room.blocks more.blocks;
  }

  pub rooms_before : (count : ℕ) (f f' : FreeHands L) (h : Hands L) → HaveRoom count f' → AreOneMore f f' h → HaveRoom count f
  rooms_before count f f' h room more = record {
    cells = room_before count _ _ _ room.cells more.cells;
    records = room_before count _ _ _ room.records more.records;
    blocks = room_before count _ _ _ room.blocks more.blocks;
  }

  pub rest_all_unused : (count done : ℕ) (f f' : FreeHands L) (h : Hands L) → done < count → AllAreUnused (count - done) f'
      → AreOneMore f f' h → AllAreUnused (count - (done + 1)) f
  rest_all_unused count done f f' h some are more = record {
    cells = rest_unused count done _ _ _ some are.cells more.cells;
    records = rest_unused count done _ _ _ some are.records more.records;
    blocks = rest_unused count done _ _ _ some are.blocks more.blocks;
  }

  pub last_all_unused : (count done : ℕ) (f f' : FreeHands L) (h : Hands L) → done < count → AllAreUnused (count - done) f'
      → AreOneMore f f' h → h ≡ unused_hands
  last_all_unused count done f f' h some are more =
      let cells = last_unused count done _ _ _ some are.cells more.cells in
      let records = last_unused count done _ _ _ some are.records more.records in
      let blocks = last_unused count done _ _ _ some are.blocks more.blocks in
      ap (λ c. record { cells = c; records = h.records; blocks = h.blocks }) cells
      ∙ ap (λ r. record { cells = unused_pair; records = r; blocks = h.blocks }) records
      ∙ ap (λ b. record { cells = unused_pair; records = unused_pair; blocks = b }) blocks

  pub all_made_more : {W : Type 0} (g : W → Hands L) (done : List W) (w : W) (f f' : FreeHands L) (h : Hands L)
      → AllAreMadeOf g done f → AreOneMore f f' h → g w ≡ h → AllAreMadeOf g (done ++ w ∷ []) f'
  all_made_more g done w f f' h are more same = record {
    cells = made_more (λ v. (g v).cells) done w _ _ _ are.cells more.cells (ap (λ (k : Hands L). k.cells) same);
    records = made_more (λ v. (g v).records) done w _ _ _ are.records more.records (ap (λ (k : Hands L). k.records) same);
    blocks = made_more (λ v. (g v).blocks) done w _ _ _ are.blocks more.blocks (ap (λ (k : Hands L). k.blocks) same);
  }

  pub none_made : {W : Type 0} (g : W → Hands L) (count : ℕ) (f : FreeHands L) → AreNone count f → AllAreMadeOf g [] f
  none_made g count f none = record {
    cells = record { hands = none.cells.none.hands; shelf_hands = none.cells.none.shelf_hands };
    records = record { hands = none.records.none.hands; shelf_hands = none.records.none.shelf_hands };
    blocks = record { hands = none.blocks.none.hands; shelf_hands = none.blocks.none.shelf_hands };
  }

  pub none_room : (count : ℕ) (f : FreeHands L) → AreNone count f → HaveRoom count f
  none_room count f none = record { cells = none.cells.room; records = none.records.room; blocks = none.blocks.room }

  pub have_places : {W : Type 0} (g : W → Hands L) (done left rest : List W) (w : W) (all : ℕ) (f : FreeHands L) → AllAreMadeOf g done f
      → length done + length left ≡ all → left ≡ rest ++ w ∷ [] → HaveRoom all f → HavePlaces f
  have_places g done left rest w all f made sum is room = record {
    cells = place_left (λ v. (g v).cells) done left rest w all f.cells made.cells sum is room.cells;
    records = place_left (λ v. (g v).records) done left rest w all f.records made.records sum is room.records;
    blocks = place_left (λ v. (g v).blocks) done left rest w all f.blocks made.blocks sum is room.blocks;
  }

  -- the hands that came back are those that were made, and there are some
  module _ (count n : ℕ) (s : Supplies L) (f f' : FreeHands L) (opened : AreOpened count s f) (even : AllAreEven n f') where
    pub have_made : n ≡ count → HaveMade s f'
    have_made same = record {
      cells = has_made count n s.cells f.cells f'.cells opened.cells even.cells same;
      records = has_made count n s.records f.records f'.records opened.records even.records same;
      blocks = has_made count n s.blocks f.blocks f'.blocks opened.blocks even.blocks same;
    }

    pub have_hands : 0 < n → HaveHands f'
    have_hands some = record {
      cells = has_hand count n s.cells f.cells f'.cells opened.cells even.cells some;
      records = has_hand count n s.records f.records f'.records opened.records even.records some;
      blocks = has_hand count n s.blocks f.blocks f'.blocks opened.blocks even.blocks some;
    }

  -- ---- what hands counted

  -- a job leaves each pair of hands even
  pub evens : (s s' : Stocks L) → ((k : ℕ) → outs_of (hands_of s') k ≡ outs_of (hands_of s) k) → IsEven (hands_of s) → IsEven (hands_of s')
  evens s s' same even = record {
    cells = one_even s.cells.pair s'.cells.pair s.cells.few s'.cells.few (same 0) even.cells;
    records = one_even s.records.pair s'.records.pair s.records.few s'.records.few (same 1) even.records;
    blocks = one_even s.blocks.pair s'.blocks.pair s.blocks.few s'.blocks.few (same 2) even.blocks;
  }

  -- as much went as came
  pub balance : (h : Hands L) → IsEven h → all_frees h + all_puts h ≡ all_allocs h + all_gets h
  balance h even = omega (arith, even.cells, even.records, even.blocks)

  -- the hands of workers, after these were taken apart
  module _ {W : Type 0} (hands_in : W → Hands L) (ws : List W) (f : FreeHands L) (made : AllAreMadeOf hands_in (reverse ws) f) where
    pub all_even : (count : ℕ) → length ws ≡ count → All (λ w. IsEven (hands_in w)) ws → AllAreEven count f
    all_even count len each = record {
      cells = even_pairs (λ w. (hands_in w).cells) ws f.cells made.cells count len (λ i d l. (each i d l).cells);
      records = even_pairs (λ w. (hands_in w).records) ws f.records made.records count len (λ i d l. (each i d l).records);
      blocks = even_pairs (λ w. (hands_in w).blocks) ws f.blocks made.blocks count len (λ i d l. (each i d l).blocks);
    }

    hands_three : (h : HandView → ℕ) → sum_by (λ w. h (hands_in w).cells.hand + h (hands_in w).records.hand + h (hands_in w).blocks.hand) ws
        ≡ sum_by h f.cells.hands.items + sum_by h f.records.hands.items + sum_by h f.blocks.hands.items
    hands_three h = omega (
      arith,
      three_sums (λ w. h (hands_in w).cells.hand) (λ w. h (hands_in w).records.hand) (λ w. h (hands_in w).blocks.hand) ws,
      sum_hands (λ w. (hands_in w).cells) ws f.cells made.cells h,
      sum_hands (λ w. (hands_in w).records) ws f.records made.records h,
      sum_hands (λ w. (hands_in w).blocks) ws f.blocks made.blocks h,
    )

    pub sum_allocs : sum_by (λ w. all_allocs (hands_in w)) ws ≡ free_allocs f
    sum_allocs = hands_three (λ h. h.allocs)

    pub sum_nulls : sum_by (λ w. all_nulls (hands_in w)) ws ≡ free_nulls f
    sum_nulls = hands_three (λ h. h.nulls)

    pub sum_gets : sum_by (λ w. all_gets (hands_in w)) ws ≡ free_gets f
    sum_gets = omega (
      arith,
      three_sums (λ w. (hands_in w).cells.shelf_hand.gets) (λ w. (hands_in w).records.shelf_hand.gets) (λ w. (hands_in w).blocks.shelf_hand.gets) ws,
      sum_shelf_hands (λ w. (hands_in w).cells) ws f.cells made.cells (λ h. h.gets),
      sum_shelf_hands (λ w. (hands_in w).records) ws f.records made.records (λ h. h.gets),
      sum_shelf_hands (λ w. (hands_in w).blocks) ws f.blocks made.blocks (λ h. h.gets),
    )

  -- ---- supplies that are closed

  module _ (o : OwnersView) (f : FreeHands L) (seats seats' : List SeatView) (ss : List ShelfTotals) (ts : List Totals) (closed : AreClosed o f seats seats' ss ts) where
    pub closed_even : (count : ℕ) → AllAreEven count f → All IsEvenTotal ts
    closed_even count even = subst (All IsEvenTotal) (sym closed.totals_are) (all_three IsEvenTotal closed.cells closed.records closed.blocks
        (even_total count f.cells closed.cell_shelf closed.cells even.cells closed.cells_closed)
        (even_total count f.records closed.record_shelf closed.records even.records closed.records_closed)
        (even_total count f.blocks closed.block_shelf closed.blocks even.blocks closed.blocks_closed))

    pub closed_shelves : (count : ℕ) → AllAreEven count f → All IsEvenShelf ss
    closed_shelves count even = subst (All IsEvenShelf) (sym closed.shelves_are) (all_three IsEvenShelf closed.cell_shelf closed.record_shelf closed.block_shelf
        (even_shelf count f.cells closed.cell_shelf closed.cells even.cells closed.cells_closed)
        (even_shelf count f.records closed.record_shelf closed.records even.records closed.records_closed)
        (even_shelf count f.blocks closed.block_shelf closed.blocks even.blocks closed.blocks_closed))

    pub closed_allocs : allocs_in ts ≡ free_allocs f
    closed_allocs =
        let sum = ap allocs_in closed.totals_are ∙ sum_three (λ (t : Totals). t.allocs) closed.cells closed.records closed.blocks in
        omega (arith, sum, closed.cells_closed.allocs, closed.records_closed.allocs, closed.blocks_closed.allocs)

    pub closed_nulls : nulls_in ts ≡ free_nulls f
    closed_nulls =
        let sum = ap nulls_in closed.totals_are ∙ sum_three (λ (t : Totals). t.nulls) closed.cells closed.records closed.blocks in
        omega (arith, sum, closed.cells_closed.nulls, closed.records_closed.nulls, closed.blocks_closed.nulls)

    pub closed_gets : gets_in ss ≡ free_gets f
    closed_gets =
        let sum = ap gets_in closed.shelves_are ∙ sum_three (λ (t : ShelfTotals). t.gets) closed.cell_shelf closed.record_shelf closed.block_shelf in
        omega (arith, sum, closed.cells_closed.gets, closed.records_closed.gets, closed.blocks_closed.gets)
