-- Who owns which slot. The word of a slot is 0 where the slot is free, one more than a shelf's number where that shelf owns it, and
-- the word of a mark where a run owns it; words below `WORDS_OF_A_RUN` are no run's.
-- What a seat holds, what its claims and fetches found, and what it shelved, are lists of entries: a slot with a word.
use Rattle.std.specs.Prelude.{◌≡◌, ◌≢◌, ℕ, suc, ◌+◌, ◌<◌, ◌≤◌, ◌==◌, nat_lt, if◌then◌else◌, List, [], ◌∷◌, ◌++◌, length, slice_index, sum_by}
use Rattle.std.specs.Prelude.{count_by, filter, flat_map, Option, Some, None}
use Rattle.atomic_table.specs.Table.{State, Me, Step}
use Rattle.atomic_table.specs.Seated.{TableId}
use Rattle.atomic_table.specs.declared.shared.Seat.{Seat}
use Rattle.owners_table.specs.declared.owning.OwnerSheet.{OwnerSheet}
use Rattle.owners_table.specs.declared.mark.Owner.{Owner}
use Rattle.owners_table.specs.declared.mark.Owner.TheVariants.{Run, Shelf}
use Rattle.owners_table.specs.declared.mark.TheConstants.{SHELVES, WORDS_OF_A_RUN}
use Rattle.owners_table.specs.Marking.{mark_word, IsMarkWord}
use Rattle.owners_table.specs.Place.{place, slot_at, words_in}
use Rattle.owners_table.specs.Sheets.{tally, sheet_count, sheet_of}

-- what the word of a slot can be: past that of the last shelf, only the word of a mark
abbrev pub IsSlotWord : ℕ → Type 0
IsSlotWord w = SHELVES < w → IsMarkWord w

-- the word of an owner
abbrev pub owner_word : Owner → ℕ
owner_word (Run mark) = mark_word mark.run mark.at
owner_word (Shelf shelf) = shelf + 1

-- a run, or a shelf that there is: no two of these have one word
abbrev pub IsOwner : Owner → Type 0
IsOwner (Run mark) = Unit {0}
IsOwner (Shelf shelf) = shelf < SHELVES

-- the word of an owner, and 0 where there is none
abbrev pub found_word : Option Owner → ℕ
found_word None = 0
found_word (Some owner) = owner_word owner

-- the word where it is a run's, else 0
abbrev pub run_word : ℕ → ℕ
run_word w = if nat_lt w WORDS_OF_A_RUN then 0 else w

-- the entries of the slot
abbrev pub entries_of : ℕ → List (ℕ × ℕ) → List (ℕ × ℕ)
entries_of slot es = filter (λ e. e.0 == slot) es

-- some entry is of the slot
abbrev pub Holds : ℕ → List (ℕ × ℕ) → Type 0
Holds slot es = 0 < count_by (λ e. e.0 == slot) es

-- the word of the first entry of the slot, and 0 where it has none
abbrev pub word_at : ℕ → List (ℕ × ℕ) → ℕ
word_at slot [] = 0
word_at slot (e ∷ es) = if e.0 == slot then e.1 else word_at slot es

-- the list without the first entry of the slot
abbrev pub without : ℕ → List (ℕ × ℕ) → List (ℕ × ℕ)
without slot [] = []
without slot (e ∷ es) = if e.0 == slot then es else e ∷ without slot es

-- no slot has an entry in both lists
abbrev pub Apart : List (ℕ × ℕ) → List (ℕ × ℕ) → Type 0
Apart xs ys = (slot : ℕ) → Holds slot xs → Holds slot ys → ⊥

-- the entries weighed by h, a weight for each slot and word, and added up
abbrev pub weigh : (ℕ → ℕ → ℕ) → List (ℕ × ℕ) → ℕ
weigh h es = sum_by (λ e. h e.0 e.1) es

-- the weight of slots and their words, as one of places in the table and their words
abbrev pub by_place : (ℕ → ℕ → ℕ) → ℕ → ℕ → ℕ
by_place h place w = h (slot_at place) w

-- a slot's word weighs nothing where it is no run's
abbrev pub weigh_word : (ℕ → ℕ → ℕ) → ℕ → ℕ → ℕ
weigh_word h slot w = if nat_lt w WORDS_OF_A_RUN then 0 else h slot w

-- the words of the slots from `slot` on, weighed and added up
abbrev pub weigh_words : (ℕ → ℕ → ℕ) → ℕ → List ℕ → ℕ
weigh_words h slot [] = 0
weigh_words h slot (w ∷ ws) = weigh_word h slot w + weigh_words h (suc slot) ws

-- a slot's word weighs as a shelf's only where it is one
abbrev pub weigh_shelf : (ℕ → ℕ → ℕ) → ℕ → ℕ → ℕ
weigh_shelf h slot w = if w == 0 then 0 else if nat_lt w WORDS_OF_A_RUN then h slot w else 0

abbrev pub weigh_shelves : (ℕ → ℕ → ℕ) → ℕ → List ℕ → ℕ
weigh_shelves h slot [] = 0
weigh_shelves h slot (w ∷ ws) = weigh_shelf h slot w + weigh_shelves h (suc slot) ws

-- The rule of the table. There is a sheet for each seat made. However slots and words are weighed, the lists of all sheets weigh
-- what the words of runs weigh: they have those entries, each once, and no other.
pub record Owned (slots seats : ℕ) (s : State (Unit {0}) (List OwnerSheet)) : Type 0 where
  pub wide : length s.words ≡ words_in slots
  pub spare : (place : ℕ) → slots ≤ slot_at place → slice_index s.words place ≡ 0
  pub words : (place : ℕ) → IsSlotWord (slice_index s.words place)
  pub sheets : sheet_count s.views ≡ seats
  pub listed : (h : ℕ → ℕ → ℕ) → tally (λ t. weigh h t.held) s.views ≡ weigh_words (by_place h) 0 s.words
  -- what was shelved was got, but for what the words of shelves say
  pub shelved : (h : ℕ → ℕ → ℕ) → tally (λ t. weigh h t.shelved) s.views ≡ weigh_shelves (by_place h) 0 s.words + tally (λ t. weigh h t.got) s.views

-- the entries of all lists
abbrev pub all_held : List (List OwnerSheet) → List (ℕ × ℕ)
all_held views = flat_map (λ sheets. flat_map (λ t. t.held) sheets) views

-- what a slot with this word has in the lists: where the word is a run's, one entry with that word, and else none
abbrev pub owner_of : ℕ → ℕ → List (ℕ × ℕ)
owner_of slot w = if nat_lt w WORDS_OF_A_RUN then [] else (slot, w) ∷ []

-- all the entries of the slot, in any list, are what this word says
abbrev pub HasOneOwner : ℕ → List (ℕ × ℕ) → ℕ → Type 0
HasOneOwner word es slot = entries_of slot es ≡ owner_of slot word

-- the rule says this of each slot and its word
abbrev pub EachHasOneOwner : Type 0
EachHasOneOwner = (slots seats : ℕ) (s : State (Unit {0}) (List OwnerSheet)) → Owned slots seats s → (slot : ℕ) → slot < slots
    → HasOneOwner (slice_index s.words (place slot)) (all_held s.views) slot

abbrev pub blank : OwnerSheet
blank = record { held = []; tries = 0; notes = []; fetches = []; shelved = []; got = [] }

-- the list after an exchange of the slot from this word to another: it gains the slot where that word was found
abbrev pub gained : ℕ → ℕ → ℕ → ℕ → List (ℕ × ℕ) → List (ℕ × ℕ)
gained slot from word found es = if found == from then (slot, word) ∷ es else es

-- the sheet after a claim of the slot that found this word
abbrev pub after_claim : ℕ → ℕ → ℕ → OwnerSheet → OwnerSheet
after_claim slot word found t = record { held = gained slot 0 word found t.held; tries = t.tries + 1; notes = t.notes ++ (slot, found) ∷ []; fetches = t.fetches; shelved = t.shelved; got = t.got }

-- the sheet after a release of the slot
abbrev pub after_release : ℕ → OwnerSheet → OwnerSheet
after_release slot t = record { held = without slot t.held; tries = t.tries; notes = t.notes; fetches = t.fetches; shelved = t.shelved; got = t.got }

-- the sheet after the slot was shelved, with the shelf's word
abbrev pub after_shelve : ℕ → ℕ → OwnerSheet → OwnerSheet
after_shelve slot word t = record { held = without slot t.held; tries = t.tries; notes = t.notes; fetches = t.fetches; shelved = t.shelved ++ (slot, word) ∷ []; got = t.got }

-- the sheet after a fetch of the slot from the shelf of the first word, that found the last
abbrev pub after_fetch : ℕ → ℕ → ℕ → ℕ → OwnerSheet → OwnerSheet
after_fetch slot from word found t = record { held = gained slot from word found t.held; tries = t.tries + 1; notes = t.notes; fetches = t.fetches ++ (slot, found) ∷ []; shelved = t.shelved; got = gained slot from from found t.got }

-- where the list has the slot, the word that was found is a run's, and the one in the list
abbrev pub IsOwn : ℕ → ℕ → List (ℕ × ℕ) → Type 0
IsOwn slot found es = Holds slot es → (WORDS_OF_A_RUN ≤ found) × (found ≡ word_at slot es)

-- What a claim shows a seat of one sheet: what it found, and that this was the seat's own word where it had the slot
abbrev pub claimed : Step (Unit {0}) → Me (Unit {0}) (List OwnerSheet) → ℕ → Me (Unit {0}) (List OwnerSheet) → Type 0
claimed st m found m' = (m'.1 ≡ m.1) × IsSlotWord found × ((t : OwnerSheet) → m.0 ≡ t ∷ [] → (m'.0 ≡ after_claim (slot_at st.word) st.second found t ∷ []) × IsOwn (slot_at st.word) found t.held)

-- what a fetch shows a seat of one sheet: the same
abbrev pub fetched : Step (Unit {0}) → Me (Unit {0}) (List OwnerSheet) → ℕ → Me (Unit {0}) (List OwnerSheet) → Type 0
fetched st m found m' = (m'.1 ≡ m.1) × IsSlotWord found × ((t : OwnerSheet) → m.0 ≡ t ∷ [] → (m'.0 ≡ after_fetch (slot_at st.word) st.first st.second found t ∷ []) × IsOwn (slot_at st.word) found t.held)

-- what a release shows a seat of one sheet
abbrev pub released : Step (Unit {0}) → Me (Unit {0}) (List OwnerSheet) → ℕ → Me (Unit {0}) (List OwnerSheet) → Type 0
released st m found m' = (m'.1 ≡ m.1) × ((t : OwnerSheet) → m.0 ≡ t ∷ [] → m'.0 ≡ after_release (slot_at st.word) t ∷ [])

-- what shelving shows a seat of one sheet
abbrev pub was_shelved : Step (Unit {0}) → Me (Unit {0}) (List OwnerSheet) → ℕ → Me (Unit {0}) (List OwnerSheet) → Type 0
was_shelved st m found m' = (m'.1 ≡ m.1) × ((t : OwnerSheet) → m.0 ≡ t ∷ [] → m'.0 ≡ after_shelve (slot_at st.word) st.first t ∷ [])

-- what a look shows a seat of two sheets: their lists have no slot in common
abbrev pub looked : Step (Unit {0}) → Me (Unit {0}) (List OwnerSheet) → ℕ → Me (Unit {0}) (List OwnerSheet) → Type 0
looked st m found m' = (m' ≡ m) × ((t u : OwnerSheet) → m.0 ≡ t ∷ u ∷ [] → Apart t.held u.held)

-- What contracts see of a seat: its table, the entries that it holds, how many claims and fetches it made, what each claim found,
-- what each fetch found, and what it shelved
pub record SeatView : Type 0 where
  pub table : TableId
  pub held : List (ℕ × ℕ)
  pub tries : ℕ
  pub notes : List (ℕ × ℕ)
  pub fetches : List (ℕ × ℕ)
  pub shelved : List (ℕ × ℕ)
  pub got : List (ℕ × ℕ)

-- a seat that was just made
abbrev pub fresh : TableId → SeatView
fresh table = record { table = table; held = []; tries = 0; notes = []; fetches = []; shelved = []; got = [] }

abbrev pub seat_view : Seat (Unit {0}) (List OwnerSheet) → SeatView
seat_view p =
    let s = sheet_of blank p in
    record { table = p.table_id; held = s.held; tries = s.tries; notes = s.notes; fetches = s.fetches; shelved = s.shelved; got = s.got }

-- What contracts see of a table: which it is, how many slots it has, and how many seats were made
pub record OwnersView : Type 0 where
  pub table : TableId
  pub slots : ℕ
  pub seats : ℕ

-- the seat has the slot more, with this word, and notes that its claim found the slot free
abbrev pub IsClaimed : (slot word : ℕ) (old new : SeatView) → Type 0
IsClaimed slot word old new = (new.held ≡ (slot, word) ∷ old.held) × (new.notes ≡ old.notes ++ (slot, 0) ∷ [])

-- the seat has what it had, and notes that its claim found this word
abbrev pub IsTaken : (slot found : ℕ) (old new : SeatView) → Type 0
IsTaken slot found old new = (new.held ≡ old.held) × (new.notes ≡ old.notes ++ (slot, found) ∷ [])

-- the seat has the slot more, with this word, and notes that its fetch found the word of the shelf, and got it from there
abbrev pub IsFetched : (slot shelf word : ℕ) (old new : SeatView) → Type 0
IsFetched slot shelf word old new =
    (new.held ≡ (slot, word) ∷ old.held) × (new.fetches ≡ old.fetches ++ (slot, shelf) ∷ []) × (new.got ≡ (slot, shelf) ∷ old.got)

-- the seat has what it had, and notes that its fetch found this word, which isn't that of the shelf
abbrev pub IsElsewhere : (slot shelf found : ℕ) (old new : SeatView) → Type 0
IsElsewhere slot shelf found old new =
    (found ≢ shelf) × (new.held ≡ old.held) × (new.fetches ≡ old.fetches ++ (slot, found) ∷ []) × (new.got ≡ old.got)

-- the entries that the seats hold
abbrev pub held_by : List SeatView → List (ℕ × ℕ)
held_by seats = flat_map (λ s. s.held) seats

-- what was done with a seat
abbrev pub sheet : SeatView → OwnerSheet
sheet s = record { held = s.held; tries = s.tries; notes = s.notes; fetches = s.fetches; shelved = s.shelved; got = s.got }

-- What is left of a table that was closed with these seats: the words keep the rule, the seats' lists weigh no more than they do,
-- and as much where these are all the seats that were made
pub record IsLeft (table : OwnersView) (seats : List SeatView) (ws : List ℕ) : Type 0 where
  pub wide : length ws ≡ words_in table.slots
  pub words : (place : ℕ) → IsSlotWord (slice_index ws place)
  pub spare : (place : ℕ) → table.slots ≤ slot_at place → slice_index ws place ≡ 0
  pub some : (h : ℕ → ℕ → ℕ) → weigh h (held_by seats) ≤ weigh_words (by_place h) 0 ws
  pub all : length seats ≡ table.seats → (h : ℕ → ℕ → ℕ) → weigh h (held_by seats) ≡ weigh_words (by_place h) 0 ws
