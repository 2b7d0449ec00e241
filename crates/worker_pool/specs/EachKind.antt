-- What there is of each kind: in one place all that a kind more would touch.
use Rattle.std.specs.Prelude.{◌≡◌, ◌+◌, ℕ, List, [], ◌∷◌, All, length, ◌==◌, if◌then◌else◌}
use Rattle.object_cache.specs.declared.totals.Totals.{Totals}
use Rattle.owners_table.specs.Owning.{OwnersView, SeatView}
use Rattle.worker_pool.specs.declared.each_kind.Blanks.{Blanks}
use Rattle.worker_pool.specs.declared.each_kind.FreeHands.{FreeHands}
use Rattle.worker_pool.specs.declared.each_kind.Hands.{Hands}
use Rattle.worker_pool.specs.declared.each_kind.Stocks.{Stocks}
use Rattle.worker_pool.specs.declared.each_kind.Supplies.{Supplies}
use Rattle.worker_pool.specs.declared.outcome.ShelfTotals.{ShelfTotals}
use Rattle.worker_pool.specs.declared.supply.KindBlanks.{KindBlanks}
use Rattle.worker_pool.specs.Books.{AreFor, AreWhole}
use Rattle.worker_pool.specs.Hands.{AreEven, AreMadeOf, AreUnused, HasHand, HasPlace, HasRoom, IsEvenPair, IsNone, IsOneMore, allocs_by, gets_by}
use Rattle.worker_pool.specs.Hands.{nulls_by, out_of, unused_pair}
use Rattle.worker_pool.specs.Outcomes.{IsIdle, noted_by, lost_by, fetches_by, left_in}
use Rattle.worker_pool.specs.Supplies.{HasMade, IsClosed, IsOpened}

-- ---- hands

module _ {L : Type 0} where
  abbrev pub unused_hands : Hands L
  unused_hands = record { cells = unused_pair; records = unused_pair; blocks = unused_pair }

  pub record AllAreUnused (count : ℕ) (f : FreeHands L) : Type 0 where
    pub cells : AreUnused count f.cells
    pub records : AreUnused count f.records
    pub blocks : AreUnused count f.blocks

  pub record HaveRoom (count : ℕ) (f : FreeHands L) : Type 0 where
    pub cells : HasRoom count f.cells
    pub records : HasRoom count f.records
    pub blocks : HasRoom count f.blocks

  pub record AreNone (count : ℕ) (f : FreeHands L) : Type 0 where
    pub cells : IsNone count f.cells
    pub records : IsNone count f.records
    pub blocks : IsNone count f.blocks

  pub record HaveHands (f : FreeHands L) : Type 0 where
    pub cells : HasHand f.cells
    pub records : HasHand f.records
    pub blocks : HasHand f.blocks

  pub record HavePlaces (f : FreeHands L) : Type 0 where
    pub cells : HasPlace f.cells
    pub records : HasPlace f.records
    pub blocks : HasPlace f.blocks

  pub record AreOneMore (f f' : FreeHands L) (h : Hands L) : Type 0 where
    pub cells : IsOneMore f.cells f'.cells h.cells
    pub records : IsOneMore f.records f'.records h.records
    pub blocks : IsOneMore f.blocks f'.blocks h.blocks

  pub record AllAreMadeOf {W : Type 0} (hands_of : W → Hands L) (ws : List W) (f : FreeHands L) : Type 0 where
    pub cells : AreMadeOf (λ w. (hands_of w).cells) ws f.cells
    pub records : AreMadeOf (λ w. (hands_of w).records) ws f.records
    pub blocks : AreMadeOf (λ w. (hands_of w).blocks) ws f.blocks

  -- so it did of each kind
  pub record IsEven (h : Hands L) : Type 0 where
    pub cells : IsEvenPair h.cells
    pub records : IsEvenPair h.records
    pub blocks : IsEvenPair h.blocks

  pub record AllAreEven (count : ℕ) (f : FreeHands L) : Type 0 where
    pub cells : AreEven count f.cells
    pub records : AreEven count f.records
    pub blocks : AreEven count f.blocks

  -- what the hands of all kinds counted together
  abbrev pub all_allocs : Hands L → ℕ
  all_allocs h = h.cells.hand.allocs + h.records.hand.allocs + h.blocks.hand.allocs

  abbrev pub all_frees : Hands L → ℕ
  all_frees h = h.cells.hand.frees + h.records.hand.frees + h.blocks.hand.frees

  abbrev pub all_nulls : Hands L → ℕ
  all_nulls h = h.cells.hand.nulls + h.records.hand.nulls + h.blocks.hand.nulls

  abbrev pub all_puts : Hands L → ℕ
  all_puts h = h.cells.shelf_hand.puts + h.records.shelf_hand.puts + h.blocks.shelf_hand.puts

  abbrev pub all_gets : Hands L → ℕ
  all_gets h = h.cells.shelf_hand.gets + h.records.shelf_hand.gets + h.blocks.shelf_hand.gets

  -- the same by the number of the kind; of a kind that there isn't, none
  abbrev pub outs_of : Hands L → ℕ → ℕ
  outs_of h kind =
      if kind == 0 then out_of h.cells else
      if kind == 1 then out_of h.records else
      if kind == 2 then out_of h.blocks else
      0

  -- the same of hands that no worker has
  abbrev pub free_allocs : FreeHands L → ℕ
  free_allocs f = allocs_by f.cells + allocs_by f.records + allocs_by f.blocks

  abbrev pub free_nulls : FreeHands L → ℕ
  free_nulls f = nulls_by f.cells + nulls_by f.records + nulls_by f.blocks

  abbrev pub free_gets : FreeHands L → ℕ
  free_gets f = gets_by f.cells + gets_by f.records + gets_by f.blocks

-- ---- books

-- so are those of each kind, by the kinds' numbers
pub record AreAllFor (outs ins puts gets : ℕ → ℕ) (b : Blanks) : Type 0 where
  pub cells : AreFor (outs 0) (ins 0) (puts 0) (gets 0) b.cells
  pub records : AreFor (outs 1) (ins 1) (puts 1) (gets 1) b.records
  pub blocks : AreFor (outs 2) (ins 2) (puts 2) (gets 2) b.blocks

pub record AreAllWhole (b : Blanks) : Type 0 where
  pub cells : AreWhole b.cells
  pub records : AreWhole b.records
  pub blocks : AreWhole b.blocks

-- what is said of the blanks of a kind, by its number
abbrev pub of_kind : (KindBlanks → ℕ) → Blanks → ℕ → ℕ
of_kind say b kind = if kind == 0 then say b.cells else if kind == 1 then say b.records else say b.blocks

-- ---- supplies

module _ {L : Type 0} where
  pub record HaveMade (s : Supplies L) (f : FreeHands L) : Type 0 where
    pub cells : HasMade s.cells f.cells
    pub records : HasMade s.records f.records
    pub blocks : HasMade s.blocks f.blocks

  pub record AreOpened (count : ℕ) (s : Supplies L) (f : FreeHands L) : Type 0 where
    pub cells : IsOpened count s.cells f.cells
    pub records : IsOpened count s.records f.records
    pub blocks : IsOpened count s.blocks f.blocks

  -- each was closed, in the order of the kinds' numbers, and what the shelves held went back by these seats, which are as idle as
  -- before
  pub record AreClosed (o : OwnersView) (f : FreeHands L) (seats seats' : List SeatView) (ss : List ShelfTotals) (ts : List Totals) : Type 0 where
    pub cell_shelf : ShelfTotals
    pub record_shelf : ShelfTotals
    pub block_shelf : ShelfTotals
    pub shelves_are : ss ≡ cell_shelf ∷ record_shelf ∷ block_shelf ∷ []
    pub cells : Totals
    pub records : Totals
    pub blocks : Totals
    pub totals_are : ts ≡ cells ∷ records ∷ blocks ∷ []
    pub cells_closed : IsClosed f.cells cell_shelf cells
    pub records_closed : IsClosed f.records record_shelf records
    pub blocks_closed : IsClosed f.blocks block_shelf blocks
    pub all : length seats' ≡ length seats
    pub idle : All (IsIdle o) seats'
    pub noted : noted_by seats' ≡ noted_by seats
    pub lost : lost_by seats' ≡ lost_by seats
    pub fetches : fetches_by seats' ≡ fetches_by seats + left_in ss

-- ---- stocks

abbrev pub hands_of : {L : Type 0} → Stocks L → Hands L
hands_of s = record { cells = s.cells.pair; records = s.records.pair; blocks = s.blocks.pair }

-- the count, where k is the kind
abbrev pub where_kind : (kind k count : ℕ) → ℕ
where_kind kind k count = if k == kind then count else 0

-- that many objects of the kind were taken, given back, refused, put on its shelf and got from there, and none of another kind
pub record HasMoved {L : Type 0} (kind taken given refused put got : ℕ) (h h' : Hands L) : Type 0 where
  pub allocs : all_allocs h' ≡ all_allocs h + taken
  pub frees : all_frees h' ≡ all_frees h + given
  pub nulls : all_nulls h' ≡ all_nulls h + refused
  pub puts : all_puts h' ≡ all_puts h + put
  pub gets : all_gets h' ≡ all_gets h + got
  pub outs : (k : ℕ) → outs_of h' k + where_kind kind k (given + put) ≡ outs_of h k + where_kind kind k (taken + got)
