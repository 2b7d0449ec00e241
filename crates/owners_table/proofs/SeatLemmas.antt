-- A seat of one sheet at a step on the place of a slot: that it may make the step, and what it shows afterwards.
use Rattle.std.proofs.Common.{◌≡◌, ◌≢◌, ℕ, ◌+◌, ◌<◌, List, [], ◌∷◌, ◌++◌, sym, ap, ◌∙◌, subst, arith}
use Rattle.atomic_table.specs.Seated.{TableId}
use Rattle.atomic_table.specs.declared.shared.Seat.{Seat}
use Rattle.owners_table.specs.declared.mark.Owner.{Owner}
use Rattle.owners_table.specs.declared.mark.Owner.TheVariants.{Run, Shelf}
use Rattle.owners_table.specs.declared.owning.OwnerSheet.{OwnerSheet}
use Rattle.owners_table.specs.Owning.{SeatView, OwnersView, Holds, IsOwn, seat_view, owner_word, blank, after_claim, after_fetch}
use Rattle.owners_table.specs.Place.{slot_at, words_in}
use Rattle.owners_table.specs.Sheets.{first_or, sheet_of, IsSingle}
use Rattle.owners_table.proofs.Dealing.{still-single}
use Rattle.owners_table.proofs.OwningSteps.{held-won, held-lost}
use Rattle.owners_table.proofs.PlaceLemmas.{inside}

abbrev View : Type 0
View = List OwnerSheet

-- the seat is one of the table's
pub of-table : (p : Seat (Unit {0}) View) (seat : SeatView) (id : TableId) (slots seats : ℕ) (o : OwnersView)
    → seat_view p ≡ seat → record { table = id; slots = slots; seats = seats } ≡ o → seat.table ≡ o.table → p.table_id ≡ id
of-table p seat id slots seats o seen table same =
    ap (λ (v : SeatView). v.table) seen ∙ (same ∙ sym (ap (λ (v : OwnersView). v.table) table))

-- the place of a slot of the table is one of its words, and its slot one of those that the rule speaks of
pub in-reach : (id : TableId) (slots seats key place slot : ℕ) (o : OwnersView) → record { table = id; slots = slots; seats = seats } ≡ o
    → id.words ≡ words_in slots → key ≡ slots → slot_at place ≡ slot → slot < o.slots → (place < id.words) × (slot_at place < key)
in-reach id slots seats key place slot o table wide same back low =
    let all = ap (λ (v : OwnersView). v.slots) table in
    let there = inside slots place (omega arith) in
    (omega arith, omega arith)

-- one that found a word has one sheet still
pub stays-single : (p : Seat (Unit {0}) View) (v : View) (now : List (ℕ × Unit {0})) (Word : Type 0) (after : OwnerSheet → OwnerSheet) (Own : OwnerSheet → Type 0)
    → (now ≡ p.me.1) × Word × ((t : OwnerSheet) → p.me.0 ≡ t ∷ [] → (v ≡ after t ∷ []) × Own t) → IsSingle blank p
    → (v ≡ first_or blank v ∷ []) × (now ≡ [])
stays-single p v now Word after Own told single = still-single blank _ v now p.me.1 (told.2 _ single.0).0 told.0 single.1

-- it holds the slot still
pub holds-still : (place slot : ℕ) (p : Seat (Unit {0}) View) (seat : SeatView) → slot_at place ≡ slot → seat_view p ≡ seat
    → Holds slot seat.held → Holds (slot_at place) (sheet_of blank p).held
holds-still place slot p seat back seen has = subst (λ (x : ℕ × SeatView). Holds x.0 x.1.held) (λ i. (sym back i, sym seen i)) has

-- what the step found, of a slot that the seat holds
pub own-found : (place slot found : ℕ) (p : Seat (Unit {0}) View) (seat : SeatView) → slot_at place ≡ slot → seat_view p ≡ seat
    → IsOwn (slot_at place) found (sheet_of blank p).held → IsOwn slot found seat.held
own-found place slot found p seat back seen own = subst (λ (x : ℕ × SeatView). IsOwn x.0 found x.1.held) (λ i. (back i, seen i)) own

-- an owner's word is not that of a free slot
pub owner-there : (owner : Owner) (w : ℕ) → owner_word owner ≡ w → w ≢ 0
owner-there (Run mark) w is = λ free. omega arith
owner-there (Shelf shelf) w is = λ free. omega arith

pub counts-try : (t : OwnerSheet) (v : View) (p : Seat (Unit {0}) View) (old : SeatView) → v ≡ t ∷ [] → t.tries ≡ (sheet_of blank p).tries + 1
    → seat_view p ≡ old → (first_or blank v).tries ≡ old.tries + 1
counts-try t v p old e more seen = ap (λ (w : View). (first_or blank w).tries) e ∙ (more ∙ ap (λ (s : SeatView). s.tries + 1) seen)

-- ---- what the seat shows after a claim

pub claim-rest : (slot word found : ℕ) (v : View) (p : Seat (Unit {0}) View) (old : SeatView)
    → v ≡ after_claim slot word found (sheet_of blank p) ∷ [] → seat_view p ≡ old
    → ((first_or blank v).fetches ≡ old.fetches) × ((first_or blank v).shelved ≡ old.shelved) × ((first_or blank v).got ≡ old.got)
claim-rest slot word found v p old e seen = (
  ap (λ (w : View). (first_or blank w).fetches) e ∙ ap (λ (s : SeatView). s.fetches) seen,
  ap (λ (w : View). (first_or blank w).shelved) e ∙ ap (λ (s : SeatView). s.shelved) seen,
  ap (λ (w : View). (first_or blank w).got) e ∙ ap (λ (s : SeatView). s.got) seen,
)

pub claim-won : (place slot word mark found : ℕ) (v : View) (p : Seat (Unit {0}) View) (old : SeatView)
    → v ≡ after_claim (slot_at place) word found (sheet_of blank p) ∷ [] → slot_at place ≡ slot → word ≡ mark → found ≡ 0 → seat_view p ≡ old
    → ((first_or blank v).held ≡ (slot, mark) ∷ old.held) × ((first_or blank v).notes ≡ old.notes ++ (slot, 0) ∷ [])
claim-won place slot word mark found v p old e back marked free seen = (
  ap (λ (w : View). (first_or blank w).held) e
      ∙ (held-won (slot_at place) 0 word found (sheet_of blank p).held free ∙ (λ i. (back i, marked i) ∷ (seen i).held)),
  ap (λ (w : View). (first_or blank w).notes) e ∙ (λ i. (seen i).notes ++ (back i, free i) ∷ []),
)

pub claim-lost : (place slot word found there : ℕ) (v : View) (p : Seat (Unit {0}) View) (old : SeatView)
    → v ≡ after_claim (slot_at place) word found (sheet_of blank p) ∷ [] → slot_at place ≡ slot → found ≢ 0 → there ≡ found → seat_view p ≡ old
    → ((first_or blank v).held ≡ old.held) × ((first_or blank v).notes ≡ old.notes ++ (slot, there) ∷ [])
claim-lost place slot word found there v p old e back other is seen = (
  ap (λ (w : View). (first_or blank w).held) e
      ∙ (held-lost (slot_at place) 0 word found (sheet_of blank p).held other ∙ ap (λ (s : SeatView). s.held) seen),
  ap (λ (w : View). (first_or blank w).notes) e ∙ (λ i. (seen i).notes ++ (back i, sym is i) ∷ []),
)

-- ---- and after a fetch

pub fetch-rest : (slot from word found : ℕ) (v : View) (p : Seat (Unit {0}) View) (old : SeatView)
    → v ≡ after_fetch slot from word found (sheet_of blank p) ∷ [] → seat_view p ≡ old
    → ((first_or blank v).notes ≡ old.notes) × ((first_or blank v).shelved ≡ old.shelved)
fetch-rest slot from word found v p old e seen = (
  ap (λ (w : View). (first_or blank w).notes) e ∙ ap (λ (s : SeatView). s.notes) seen,
  ap (λ (w : View). (first_or blank w).shelved) e ∙ ap (λ (s : SeatView). s.shelved) seen,
)

pub fetch-won : (place slot from shelf word mark found : ℕ) (v : View) (p : Seat (Unit {0}) View) (old : SeatView)
    → v ≡ after_fetch (slot_at place) (from + 1) word found (sheet_of blank p) ∷ []
    → slot_at place ≡ slot → from ≡ shelf → word ≡ mark → found ≡ from + 1 → seat_view p ≡ old
    → ((first_or blank v).held ≡ (slot, mark) ∷ old.held) × ((first_or blank v).fetches ≡ old.fetches ++ (slot, shelf + 1) ∷ [])
    × ((first_or blank v).got ≡ (slot, shelf + 1) ∷ old.got)
fetch-won place slot from shelf word mark found v p old e back is marked won seen = (
  ap (λ (w : View). (first_or blank w).held) e
      ∙ (held-won (slot_at place) (from + 1) word found (sheet_of blank p).held won ∙ (λ i. (back i, marked i) ∷ (seen i).held)),
  ap (λ (w : View). (first_or blank w).fetches) e ∙ (λ i. (seen i).fetches ++ (back i, (won ∙ ap (λ (n : ℕ). n + 1) is) i) ∷ []),
  ap (λ (w : View). (first_or blank w).got) e
      ∙ (held-won (slot_at place) (from + 1) (from + 1) found (sheet_of blank p).got won ∙ (λ i. (back i, is i + 1) ∷ (seen i).got)),
)

pub fetch-lost : (place slot from shelf word found there : ℕ) (v : View) (p : Seat (Unit {0}) View) (old : SeatView)
    → v ≡ after_fetch (slot_at place) (from + 1) word found (sheet_of blank p) ∷ []
    → slot_at place ≡ slot → from ≡ shelf → found ≢ from + 1 → there ≡ found → seat_view p ≡ old
    → (there ≢ shelf + 1) × ((first_or blank v).held ≡ old.held) × ((first_or blank v).fetches ≡ old.fetches ++ (slot, there) ∷ [])
    × ((first_or blank v).got ≡ old.got)
fetch-lost place slot from shelf word found there v p old e back is other same seen = (
  λ wanted. other (omega arith),
  ap (λ (w : View). (first_or blank w).held) e
      ∙ (held-lost (slot_at place) (from + 1) word found (sheet_of blank p).held other ∙ ap (λ (s : SeatView). s.held) seen),
  ap (λ (w : View). (first_or blank w).fetches) e ∙ (λ i. (seen i).fetches ++ (back i, sym same i) ∷ []),
  ap (λ (w : View). (first_or blank w).got) e
      ∙ (held-lost (slot_at place) (from + 1) (from + 1) found (sheet_of blank p).got other ∙ ap (λ (s : SeatView). s.got) seen),
)
