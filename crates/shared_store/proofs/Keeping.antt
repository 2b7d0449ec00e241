-- What calls do to a stock, whose invariant they keep.
use Rattle.std.proofs.Common.{◌≡◌, inl, inr, ℕ, ◌+◌, ◌≤◌, ◌^◌, List, [], ◌∷◌, ◌++◌, Option, Some, None, IfSome, length, refl, sym, ap, ◌∙◌, subst, arith}
use Rattle.std.specs.Prelude.{option_map}
use Rattle.std.specs.Option.{MatchOption}
use Rattle.std.proofs.lemmas.List.{length-append}
use Rattle.owners_table.specs.Owning.{Holds, SeatView, owner_word, without}
use Rattle.owners_table.specs.declared.mark.Owner.{Owner}
use Rattle.exchange_shelf.specs.Views as views
use Rattle.shared_cache.specs.HandView.{Counts, HandView, Counted, IsLaden, adopts, gets_back, lends, passes_on, refuses}
use Rattle.shared_cache.specs.declared.fault.TakeFault.{TakeFault}
use Rattle.ebpf_owned.specs.Claims.{lost, Once}
use Rattle.ebpf_owned.specs.Exchanges.{less, one_if, shelved_if}
use Rattle.ebpf_owned.proofs.Claiming.{lost_as_before, lost_one_more}
use Rattle.ebpf_owned.proofs.Exchanging.{less_length, once_less}
use Rattle.ebpf_owned.proofs.Holding.{length-without, once_claimed, once_released, once_same}
use Rattle.shared_row.specs.Views.{PassView}
use Rattle.shared_store.specs.declared.commons.Commons.{Commons}
use Rattle.shared_store.specs.Making.{IsUnused}
use Rattle.shared_store.specs.Stock.{Answers, IsStock, StockView}
use Rattle.shared_store.specs.Tools.{AreAtHome, ToolsView}
use Rattle.shared_store.proofs.Answering.{IsRefused, exchange_answers, is_refused}

module _ (s t : StockView) (i : IsStock s) (strays : t.strays ≡ s.strays) (shelf : t.shelf_hand ≡ s.shelf_hand) where
  -- an object was taken, and its slot claimed
  pub took : (slot word : ℕ) → t.hand.counts ≡ lends s.hand.counts → t.hand.counts.allocs ≤ 2 ^ 56
      → t.seat.held ≡ (slot, word) ∷ s.seat.held → (Holds slot s.seat.held → ⊥) → t.seat.notes ≡ s.seat.notes ++ (slot, 0) ∷ []
      → t.seat.fetches ≡ s.seat.fetches → t.clashes ≡ s.clashes → IsStock t
  took slot word counts few held fresh notes fetches clashes =
      let lent = ap (λ (k : Counts). k.lent) counts in
      let frees = ap (λ (k : Counts). k.frees) counts in
      let allocs = ap (λ (k : Counts). k.allocs) counts in
      let adopted = ap (λ (k : Counts). k.adopted) counts in
      let passed = ap (λ (k : Counts). k.passed) counts in
      let losses = ap lost notes ∙ lost_as_before slot s.seat.notes in
      record {
        lent = omega (arith, lent, ap length held, i.lent);
        once = once_claimed slot word s.seat.held t.seat.held held fresh i.once;
        even = omega (arith, lent, frees, allocs, adopted, passed, i.even);
        shelved = (passed ∙ i.shelved.0 ∙ sym (ap (λ (v : views.HandView). v.puts) shelf), adopted ∙ i.shelved.1 ∙ sym (ap (λ (v : views.HandView). v.gets) shelf));
        noted = omega (arith, ap length notes, length-append s.seat.notes ((slot, 0) ∷ []), allocs, i.noted);
        fetched = ap length fetches ∙ i.fetched ∙ sym adopted;
        clashed = (clashes ∙ i.clashed.0 ∙ sym losses, omega (arith, clashes, allocs, i.clashed.1));
        strayed = omega (arith, strays, adopted, i.strayed);
        few = (few, omega (arith, adopted, i.few.1));
        part = ap (λ (v : views.HandView). v.parts) shelf ∙ i.part;
      }

  -- an object was taken, and went back, since its slot had an owner
  pub clashed : (slot : ℕ) (owner : Owner) (mid : Counts) → mid ≡ lends s.hand.counts → t.hand.counts ≡ gets_back mid → mid.allocs ≤ 2 ^ 56
      → t.seat.held ≡ s.seat.held → t.seat.notes ≡ s.seat.notes ++ (slot, owner_word owner) ∷ []
      → t.seat.fetches ≡ s.seat.fetches → t.clashes ≡ s.clashes + 1 → IsStock t
  clashed slot owner mid went back few held notes fetches clashes =
      let lent = ap (λ (k : Counts). k.lent) went in
      let frees = ap (λ (k : Counts). k.frees) went in
      let allocs = ap (λ (k : Counts). k.allocs) went in
      let adopted = ap (λ (k : Counts). k.adopted) went in
      let passed = ap (λ (k : Counts). k.passed) went in
      let lent' = ap (λ (k : Counts). k.lent) back in
      let frees' = ap (λ (k : Counts). k.frees) back in
      let allocs' = ap (λ (k : Counts). k.allocs) back in
      let adopted' = ap (λ (k : Counts). k.adopted) back in
      let passed' = ap (λ (k : Counts). k.passed) back in
      let losses = lost_one_more slot owner s.seat.notes t.seat.notes notes in
      record {
        lent = omega (arith, lent, lent', ap length held, i.lent);
        once = once_same s.seat.held t.seat.held held i.once;
        even = omega (arith, lent, frees, allocs, adopted, passed, lent', frees', allocs', adopted', passed', i.even);
        shelved = (passed' ∙ passed ∙ i.shelved.0 ∙ sym (ap (λ (v : views.HandView). v.puts) shelf), adopted' ∙ adopted ∙ i.shelved.1 ∙ sym (ap (λ (v : views.HandView). v.gets) shelf));
        noted = omega (arith, ap length notes, length-append s.seat.notes ((slot, owner_word owner) ∷ []), allocs, allocs', i.noted);
        fetched = ap length fetches ∙ i.fetched ∙ sym (adopted' ∙ adopted);
        clashed = (omega (arith, clashes, i.clashed.0, losses), omega (arith, clashes, allocs, allocs', i.clashed.1));
        strayed = omega (arith, strays, adopted, adopted', i.strayed);
        few = (omega (arith, allocs', few), omega (arith, adopted, adopted', i.few.1));
        part = ap (λ (v : views.HandView). v.parts) shelf ∙ i.part;
      }

  -- an object that the seat held went back
  pub gave : (slot : ℕ) → Holds slot s.seat.held → t.hand.counts ≡ gets_back s.hand.counts
      → t.seat ≡ record s.seat { held = without slot s.seat.held } → t.clashes ≡ s.clashes → IsStock t
  gave slot has counts seat clashes =
      let lent = ap (λ (k : Counts). k.lent) counts in
      let frees = ap (λ (k : Counts). k.frees) counts in
      let allocs = ap (λ (k : Counts). k.allocs) counts in
      let adopted = ap (λ (k : Counts). k.adopted) counts in
      let passed = ap (λ (k : Counts). k.passed) counts in
      let held = ap (λ (v : SeatView). v.held) seat in
      let fewer = length-without slot s.seat.held has in
      let len = ap length held in
      record {
        lent = omega (arith, lent, len, fewer, i.lent);
        once = once_released slot slot s.seat.held t.seat.held refl held has i.once;
        even = omega (arith, lent, frees, allocs, adopted, passed, fewer, i.lent, i.even);
        shelved = (passed ∙ i.shelved.0 ∙ sym (ap (λ (v : views.HandView). v.puts) shelf), adopted ∙ i.shelved.1 ∙ sym (ap (λ (v : views.HandView). v.gets) shelf));
        noted = ap (λ (v : SeatView). length v.notes) seat ∙ i.noted ∙ sym allocs;
        fetched = ap (λ (v : SeatView). length v.fetches) seat ∙ i.fetched ∙ sym adopted;
        clashed = (clashes ∙ i.clashed.0 ∙ sym (ap (λ (v : SeatView). lost v.notes) seat), omega (arith, clashes, allocs, i.clashed.1));
        strayed = omega (arith, strays, adopted, i.strayed);
        few = (omega (arith, allocs, i.few.0), omega (arith, adopted, i.few.1));
        part = ap (λ (v : views.HandView). v.parts) shelf ∙ i.part;
      }

  -- no count of the hand changed but those of refusals
  pub still : t.hand.counts.lent ≡ s.hand.counts.lent → t.hand.counts.frees ≡ s.hand.counts.frees → t.hand.counts.allocs ≡ s.hand.counts.allocs
      → t.hand.counts.adopted ≡ s.hand.counts.adopted → t.hand.counts.passed ≡ s.hand.counts.passed → t.seat ≡ s.seat → t.clashes ≡ s.clashes → IsStock t
  still lent frees allocs adopted passed seat clashes = record {
    lent = lent ∙ i.lent ∙ sym (ap (λ (v : SeatView). length v.held) seat);
    once = once_same s.seat.held t.seat.held (ap (λ (v : SeatView). v.held) seat) i.once;
    even = omega (arith, lent, frees, allocs, adopted, passed, i.even);
    shelved = (passed ∙ i.shelved.0 ∙ sym (ap (λ (v : views.HandView). v.puts) shelf), adopted ∙ i.shelved.1 ∙ sym (ap (λ (v : views.HandView). v.gets) shelf));
    noted = ap (λ (v : SeatView). length v.notes) seat ∙ i.noted ∙ sym allocs;
    fetched = ap (λ (v : SeatView). length v.fetches) seat ∙ i.fetched ∙ sym adopted;
    clashed = (clashes ∙ i.clashed.0 ∙ sym (ap (λ (v : SeatView). lost v.notes) seat), omega (arith, clashes, allocs, i.clashed.1));
    strayed = omega (arith, strays, adopted, i.strayed);
    few = (omega (arith, allocs, i.few.0), omega (arith, adopted, i.few.1));
    part = ap (λ (v : views.HandView). v.parts) shelf ∙ i.part;
  }

  -- none was to be had
  pub refused : (fault : TakeFault) → t.hand.counts ≡ refuses fault s.hand.counts → t.seat ≡ s.seat → t.clashes ≡ s.clashes → IsStock t
  refused fault counts seat clashes =
      let is = subst (IsRefused s.hand.counts) (sym counts) (is_refused fault s.hand.counts) in
      still is.lent is.frees is.allocs is.adopted is.passed seat clashes

-- ---- exchanges

-- that many objects were left to others, that many were taken over, and that many of these went back
pub record Moves (given got back : ℕ) (s t : StockView) : Type 0 where
  pub lent : t.hand.counts.lent + given + back ≡ s.hand.counts.lent + got
  pub frees : t.hand.counts.frees ≡ s.hand.counts.frees + back
  pub allocs : t.hand.counts.allocs ≡ s.hand.counts.allocs
  pub passed : t.hand.counts.passed ≡ s.hand.counts.passed + given
  pub adopted : t.hand.counts.adopted ≡ s.hand.counts.adopted + got
  pub held : length t.seat.held + given + back ≡ length s.seat.held + got
  pub notes : t.seat.notes ≡ s.seat.notes
  pub fetches : length t.seat.fetches ≡ length s.seat.fetches + got
  pub shelf : t.shelf_hand ≡ views.swapped s.shelf_hand given got
  pub clashes : t.clashes ≡ s.clashes
  pub strays : t.strays ≡ s.strays + back

pub exchanged : (given got back : ℕ) (s t : StockView) → IsStock s → Moves given got back s t → back ≤ got → Once t.seat.held
    → t.hand.counts.adopted ≤ 2 ^ 56 → IsStock t
exchanged given got back s t i m few once most = record {
  lent = omega (arith, m.lent, m.held, i.lent);
  once = once;
  even = omega (arith, m.lent, m.frees, m.allocs, m.passed, m.adopted, i.even);
  shelved = (omega (arith, m.passed, ap (λ (v : views.HandView). v.puts) m.shelf, i.shelved.0), omega (arith, m.adopted, ap (λ (v : views.HandView). v.gets) m.shelf, i.shelved.1));
  noted = omega (arith, ap length m.notes, m.allocs, i.noted);
  fetched = omega (arith, m.fetches, m.adopted, i.fetched);
  clashed = (m.clashes ∙ i.clashed.0 ∙ sym (ap lost m.notes), omega (arith, m.clashes, m.allocs, i.clashed.1));
  strayed = omega (arith, m.strays, m.adopted, i.strayed, few);
  few = (omega (arith, m.allocs, i.few.0), most);
  part = ap (λ (v : views.HandView). v.parts) m.shelf ∙ i.part;
}

-- what was given was left to others
pub record Leaves (given : ℕ) (a b : Counts) : Type 0 where
  pub lent : b.lent + given ≡ a.lent
  pub frees : b.frees ≡ a.frees
  pub allocs : b.allocs ≡ a.allocs
  pub passed : b.passed ≡ a.passed + given
  pub adopted : b.adopted ≡ a.adopted

module _ {X : Type 0} (slot : X → ℕ) (held : List (ℕ × ℕ)) where
  pub by_slot : (given : Option X) (P : ℕ → Type 0) → IfSome given (λ x. P (slot x)) → IfSome (option_map slot given) P
  by_slot None P h = tt
  by_slot (Some x) P h = h

  pub one_slot : (given : Option X) → one_if (option_map slot given) ≡ one_if given
  one_slot None = refl
  one_slot (Some x) = refl

  pub leaves : (given : Option X) (a b : HandView) → a.counts.lent ≡ length held → IfSome given (λ x. Holds (slot x) held)
      → MatchOption given (b ≡ a) (λ _. Counted a b (passes_on a.counts)) → Leaves (one_if given) a.counts b.counts
  leaves None a b lent has same = record {
    lent = omega (arith, ap (λ (h : HandView). h.counts.lent) same);
    frees = ap (λ (h : HandView). h.counts.frees) same;
    allocs = ap (λ (h : HandView). h.counts.allocs) same;
    passed = omega (arith, ap (λ (h : HandView). h.counts.passed) same);
    adopted = ap (λ (h : HandView). h.counts.adopted) same;
  }
  leaves (Some x) a b lent has counted = record {
    lent = omega (arith, ap (λ (k : Counts). k.lent) counted.counts_are, lent, length-without (slot x) held has);
    frees = ap (λ (k : Counts). k.frees) counted.counts_are;
    allocs = ap (λ (k : Counts). k.allocs) counted.counts_are;
    passed = ap (λ (k : Counts). k.passed) counted.counts_are;
    adopted = ap (λ (k : Counts). k.adopted) counted.counts_are;
  }

  -- how many slots are held after it
  pub fewer : (given : Option X) (held' : List (ℕ × ℕ)) → IfSome given (λ x. Holds (slot x) held) → held' ≡ less (option_map slot given) held
      → length held' + one_if given ≡ length held
  fewer given held' has are =
      omega (arith, less_length (option_map slot given) held (by_slot given (λ s. Holds s held) has), ap length are, one_slot given)

  pub once_left : (given : Option X) (held' : List (ℕ × ℕ)) → IfSome given (λ x. Holds (slot x) held) → held' ≡ less (option_map slot given) held
      → Once held → Once held'
  once_left given held' has are once = once_less (option_map slot given) held held' (by_slot given (λ s. Holds s held) has) are once

-- what a seat is after it passed a slot, if there was one
pub record IsLeft (given : Option ℕ) (s t : SeatView) : Type 0 where
  pub held : t.held ≡ less given s.held
  pub notes : t.notes ≡ s.notes
  pub fetches : t.fetches ≡ s.fetches

pub left : (given : Option ℕ) (shelf : ℕ) (s t : SeatView) → t ≡ shelved_if s given shelf → IsLeft given s t
left None shelf s t is = record { held = ap (λ v. v.held) is; notes = ap (λ v. v.notes) is; fetches = ap (λ v. v.fetches) is }
left (Some slot) shelf s t is = record { held = ap (λ v. v.held) is; notes = ap (λ v. v.notes) is; fetches = ap (λ v. v.fetches) is }

pub left_table : (given : Option ℕ) (shelf : ℕ) (s t : SeatView) → t ≡ shelved_if s given shelf → t.table ≡ s.table
left_table None shelf s t is = ap (λ v. v.table) is
left_table (Some slot) shelf s t is = ap (λ v. v.table) is

-- a hand that was given no object since, and refused none
pub record IsQuiet (a b : HandView) : Type 0 where
  pub table : b.table ≡ a.table
  pub allocs : b.counts.allocs ≡ a.counts.allocs
  pub nulls : b.counts.nulls ≡ a.counts.nulls
  pub busy : b.counts.busy ≡ a.counts.busy

pub quiet : {X : Type 0} (given : Option X) (a b : HandView) → MatchOption given (b ≡ a) (λ _. Counted a b (passes_on a.counts)) → IsQuiet a b
quiet None a b same = record {
  table = ap (λ (h : HandView). h.table) same;
  allocs = ap (λ (h : HandView). h.counts.allocs) same;
  nulls = ap (λ (h : HandView). h.counts.nulls) same;
  busy = ap (λ (h : HandView). h.counts.busy) same;
}
quiet (Some x) a b counted = record {
  table = counted.table;
  allocs = ap (λ (k : Counts). k.allocs) counted.counts_are;
  nulls = ap (λ (k : Counts). k.nulls) counted.counts_are;
  busy = ap (λ (k : Counts). k.busy) counted.counts_are;
}

-- nor is there less room aside in it
pub unladen : {X : Type 0} (given : Option X) (a b : HandView) → MatchOption given (b ≡ a) (λ _. Counted a b (passes_on a.counts)) → (IsLaden a → ⊥) → IsLaden b → ⊥
unladen None a b same free laden = free (subst IsLaden same laden)
unladen (Some x) a b counted free laden = free (elim laden [
  | inl most ↦ inl (omega (arith, most, ap (λ (k : Counts). k.lent) counted.counts_are, ap length counted.aside))
  | inr most ↦ inr (omega (arith, most, ap (λ (k : Counts). k.adopted) counted.counts_are))
])

-- what is held is held by a seat that is the same
pub as_held : {X : Type 0} (slot : X → ℕ) (given : Option X) (a b : SeatView) → a ≡ b → IfSome given (λ x. Holds (slot x) b.held) → IfSome given (λ x. Holds (slot x) a.held)
as_held slot given a b same has = subst (λ (v : SeatView). IfSome given (λ x. Holds (slot x) v.held)) (sym same) has

pub same_one : {X : Type 0} (o : Option X) → views.one_if o ≡ one_if o
same_one None = refl
same_one (Some x) = refl

-- ---- an exchange, in its steps

module _ {X : Type 0} (slot : X → ℕ) (given : Option X) (s : StockView) (i : IsStock s) (has : IfSome given (λ x. Holds (slot x) s.seat.held))
    (h : HandView) (seat : SeatView) (one shelf : ℕ) (left_hand : MatchOption given (h ≡ s.hand) (λ _. Counted s.hand h (passes_on s.hand.counts)))
    (left_seat : seat ≡ shelved_if s.seat (option_map slot given) shelf) (one_is : one ≡ one_if given) where
  hand_is : Leaves (one_if given) s.hand.counts h.counts
  hand_is = leaves slot s.seat.held given s.hand h i.lent has left_hand

  seat_is : IsLeft (option_map slot given) s.seat seat
  seat_is = left (option_map slot given) shelf s.seat seat left_seat

  len_is : length seat.held + one_if given ≡ length s.seat.held
  len_is = fewer slot s.seat.held given seat.held has seat_is.held

  once_is : Once seat.held
  once_is = once_left slot s.seat.held given seat.held has seat_is.held i.once

  quiet_is : IsQuiet s.hand h
  quiet_is = quiet given s.hand h left_hand

  table_is : seat.table ≡ s.seat.table
  table_is = left_table (option_map slot given) shelf s.seat seat left_seat

  -- what was given is there
  pub put_is : (hand old : views.HandView) (got : ℕ) → hand ≡ views.swapped s.shelf_hand one got → s.shelf_hand ≡ old → hand.puts ≡ old.puts + one_if given
  put_is hand old got swapped same = omega (arith, ap (λ (v : views.HandView). v.puts) swapped, one_is, ap (λ (v : views.HandView). v.puts) same)

  pub nothing_got_answers : (hand : views.HandView) → hand ≡ views.swapped s.shelf_hand one 0
      → Answers s (record { hand = h; shelf_hand = hand; seat = seat; clashes = s.clashes; strays = s.strays }) 0 0 0
  nothing_got_answers hand swapped = exchange_answers s (record { hand = h; shelf_hand = hand; seat = seat; clashes = s.clashes; strays = s.strays }) one 0 0 0 i
      (record { hand = quiet_is.table; shelf_hand = ap (λ (v : views.HandView). v.table) swapped; seat = table_is })
      quiet_is.allocs quiet_is.nulls quiet_is.busy refl swapped (omega arith) refl

  -- nothing came off the shelf
  pub nothing_got : (hand : views.HandView) → hand ≡ views.swapped s.shelf_hand one 0
      → IsStock (record { hand = h; shelf_hand = hand; seat = seat; clashes = s.clashes; strays = s.strays })
  nothing_got hand swapped = exchanged one 0 0 s (record { hand = h; shelf_hand = hand; seat = seat; clashes = s.clashes; strays = s.strays }) i
      (record {
        lent = omega (arith, hand_is.lent, one_is);
        frees = omega (arith, hand_is.frees);
        allocs = hand_is.allocs;
        passed = omega (arith, hand_is.passed, one_is);
        adopted = omega (arith, hand_is.adopted);
        held = omega (arith, len_is, one_is);
        notes = seat_is.notes;
        fetches = omega (arith, ap length seat_is.fetches);
        shelf = swapped;
        clashes = refl;
        strays = omega arith;
      })
      (omega arith) once_is (omega (arith, hand_is.adopted, i.few.1))

  module _ (t : HandView) (end : SeatView) (hand : views.HandView) (swapped : hand ≡ views.swapped s.shelf_hand one 1)
      (notes : end.notes ≡ seat.notes) (fetches : length end.fetches ≡ length seat.fetches + 1) (most : t.counts.adopted ≤ 2 ^ 56) where
    module _ (table : t.table ≡ h.table) (end_table : end.table ≡ seat.table) where
      pub got_answers : t.counts ≡ adopts h.counts
          → Answers s (record { hand = t; shelf_hand = hand; seat = end; clashes = s.clashes; strays = s.strays }) 0 0 1
      got_answers counts = exchange_answers s (record { hand = t; shelf_hand = hand; seat = end; clashes = s.clashes; strays = s.strays }) one 1 0 1 i
          (record { hand = table ∙ quiet_is.table; shelf_hand = ap (λ (v : views.HandView). v.table) swapped; seat = end_table ∙ table_is })
          (ap (λ (k : Counts). k.allocs) counts ∙ quiet_is.allocs) (ap (λ (k : Counts). k.nulls) counts ∙ quiet_is.nulls)
          (ap (λ (k : Counts). k.busy) counts ∙ quiet_is.busy) refl swapped (omega arith) refl

      pub strayed_answers : t.counts ≡ gets_back (adopts h.counts)
          → Answers s (record { hand = t; shelf_hand = hand; seat = end; clashes = s.clashes; strays = s.strays + 1 }) 0 0 0
      strayed_answers counts = exchange_answers s (record { hand = t; shelf_hand = hand; seat = end; clashes = s.clashes; strays = s.strays + 1 }) one 1 1 0 i
          (record { hand = table ∙ quiet_is.table; shelf_hand = ap (λ (v : views.HandView). v.table) swapped; seat = end_table ∙ table_is })
          (ap (λ (k : Counts). k.allocs) counts ∙ quiet_is.allocs) (ap (λ (k : Counts). k.nulls) counts ∙ quiet_is.nulls)
          (ap (λ (k : Counts). k.busy) counts ∙ quiet_is.busy) refl swapped refl refl

    -- an object was claimed that came off it
    pub got : (at word : ℕ) → t.counts ≡ adopts h.counts → end.held ≡ (at, word) ∷ seat.held → (Holds at seat.held → ⊥)
        → IsStock (record { hand = t; shelf_hand = hand; seat = end; clashes = s.clashes; strays = s.strays })
    got at word counts held fresh = exchanged one 1 0 s (record { hand = t; shelf_hand = hand; seat = end; clashes = s.clashes; strays = s.strays }) i
        (record {
          lent = omega (arith, ap (λ (k : Counts). k.lent) counts, hand_is.lent, one_is);
          frees = omega (arith, ap (λ (k : Counts). k.frees) counts, hand_is.frees);
          allocs = ap (λ (k : Counts). k.allocs) counts ∙ hand_is.allocs;
          passed = omega (arith, ap (λ (k : Counts). k.passed) counts, hand_is.passed, one_is);
          adopted = omega (arith, ap (λ (k : Counts). k.adopted) counts, hand_is.adopted);
          held = omega (arith, ap length held, len_is, one_is);
          notes = notes ∙ seat_is.notes;
          fetches = omega (arith, fetches, ap length seat_is.fetches);
          shelf = swapped;
          clashes = refl;
          strays = omega arith;
        })
        (omega arith) (once_claimed at word seat.held end.held held fresh once_is) most

    -- a stray went back
    pub strayed : t.counts ≡ gets_back (adopts h.counts) → end.held ≡ seat.held
        → IsStock (record { hand = t; shelf_hand = hand; seat = end; clashes = s.clashes; strays = s.strays + 1 })
    strayed counts held = exchanged one 1 1 s (record { hand = t; shelf_hand = hand; seat = end; clashes = s.clashes; strays = s.strays + 1 }) i
        (record {
          lent = omega (arith, ap (λ (k : Counts). k.lent) counts, hand_is.lent, one_is);
          frees = omega (arith, ap (λ (k : Counts). k.frees) counts, hand_is.frees);
          allocs = ap (λ (k : Counts). k.allocs) counts ∙ hand_is.allocs;
          passed = omega (arith, ap (λ (k : Counts). k.passed) counts, hand_is.passed, one_is);
          adopted = omega (arith, ap (λ (k : Counts). k.adopted) counts, hand_is.adopted);
          held = omega (arith, ap length held, len_is, one_is);
          notes = notes ∙ seat_is.notes;
          fetches = omega (arith, fetches, ap length seat_is.fetches);
          shelf = swapped;
          clashes = refl;
          strays = omega arith;
        })
        (omega arith) (once_same seat.held end.held held once_is) most

-- ---- tools

-- tools of parts with which nothing was done
pub at_home : (c : Commons) (pages : PassView) (cells records blocks : StockView) (t : ToolsView)
    → t ≡ record { pages = pages; cells = cells; records = records; blocks = blocks } → pages.table ≡ c.base.arena.table
    → IsUnused c.cells c.base.owners cells → IsUnused c.records c.base.owners records → IsUnused c.blocks c.base.owners blocks → AreAtHome c t
at_home c pages cells records blocks t is table a b d = subst (AreAtHome c) (sym is) (record {
  of = record { pages = table; cells = a.of; records = b.of; blocks = d.of };
  none = record { cells = a.none; records = b.none; blocks = d.none };
})
