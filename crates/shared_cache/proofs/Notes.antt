-- Notes that follow one another.
use Rattle.std.proofs.Common.{◌≡◌, ℕ, ◌+◌, ◌-◌, ◌<◌, ◌≤◌, inl, inr, List, [], ◌∷◌, ◌++◌, sym, ap, ◌∙◌, subst, append_assoc, append-nil, arith}
use Rattle.std.proofs.lemmas.Bool.{cases_lt}
use Rattle.shared_cache.specs.Asking.{Begins, Found, FoundBusy, WasAsked, WasBusy, AllAsked, IsTurn}
use Rattle.shared_cache.specs.Faults.{IsGiven}

abbrev pub Notes : Type 0
Notes = List (ℕ × ℕ)

pub begins_same : (old : Notes) → Begins old old
begins_same old = ([], sym (append-nil old))

pub begins_then : (old mid new : Notes) → Begins old mid → Begins mid new → Begins old new
begins_then old mid new a b = (a.0 ++ b.0, b.1 ∙ (ap (λ (xs : Notes). xs ++ b.0) a.1 ∙ append_assoc old a.0 b.0))

pub begins_one : (old mid new : Notes) (note : ℕ × ℕ) → Begins old mid → new ≡ mid ++ note ∷ [] → Begins old new
begins_one old mid new note a is = begins_then old mid new a (note ∷ [], is)

pub found_after : (old mid new : Notes) (place word : ℕ) → Begins old mid → Found mid new place word → Found old new place word
found_after old mid new place word a (before, begins, is) = (before, begins_then old mid before a begins, is)

pub found_begins : (old new : Notes) (place word : ℕ) → Found old new place word → Begins old new
found_begins old new place word (before, begins, is) = begins_one old before new (place, word) begins is

pub asked_then : (old mid new : Notes) (place : ℕ) → WasAsked old mid place → Begins mid new → WasAsked old new place
asked_then old mid new place a b = record {
  word = a.word;
  before = a.before;
  begins = a.begins;
  after = a.after ++ b.0;
  is = b.1 ∙ (ap (λ (xs : Notes). xs ++ b.0) a.is ∙ append_assoc a.before ((place, a.word) ∷ a.after) b.0);
}

pub asked_last : (old mid new : Notes) (place word : ℕ) → Begins old mid → new ≡ mid ++ (place, word) ∷ [] → WasAsked old new place
asked_last old mid new place word a is = record { word = word; before = mid; begins = a; after = []; is = is }

pub all_then : (old mid new : Notes) (places : ℕ) → AllAsked old mid places → Begins mid new → AllAsked old new places
all_then old mid new places all b k below = asked_then old mid new k (all k below) b

-- those that the first steps asked
abbrev pub StepsAsked : Notes → Notes → ℕ → ℕ → ℕ → Type 0
StepsAsked old new first places steps = (j k : ℕ) → j < steps → IsTurn first places j k → WasAsked old new k

pub steps_none : (old new : Notes) (first places : ℕ) → StepsAsked old new first places 0
steps_none old new first places j k below is = absurd (omega arith)

same_turn : (first places step j k : ℕ) → IsTurn first places step j → IsTurn first places step k → j ≡ k
same_turn first places step j k (inside, inl here) (below, inl there) = omega arith
same_turn first places step j k (inside, inl here) (below, inr there) = absurd (omega arith)
same_turn first places step j k (inside, inr here) (below, inl there) = absurd (omega arith)
same_turn first places step j k (inside, inr here) (below, inr there) = omega arith

pub steps_more : (old mid new : Notes) (first places steps place : ℕ) → StepsAsked old mid first places steps → Begins old mid
    → IsTurn first places steps place → ((word : ℕ) × (new ≡ mid ++ (place, word) ∷ [])) → StepsAsked old new first places (steps + 1)
steps_more old mid new first places steps place all begins turn one j k below is = elim (cases_lt j steps) [
  | inl lower ↦ asked_then old mid new k (all j k lower is) ((place, one.0) ∷ [], one.1)
  | inr last ↦
      let now : j ≡ steps = omega arith in
      let same : place ≡ k = same_turn first places steps place k turn (subst (λ (s : ℕ). IsTurn first places s k) now is) in
      subst (λ (p : ℕ). WasAsked old new p) same (asked_last old mid new place one.0 begins one.1)
]

-- and all steps together ask all places
pub steps_all : (old new : Notes) (first places steps : ℕ) → first < places → places ≤ steps → StepsAsked old new first places steps → AllAsked old new places
steps_all old new first places steps inside enough all k below = elim (cases_lt k first) [
  | inl lower ↦ all (k + places - first) k (omega arith) (below, inr (omega arith))
  | inr upper ↦ all (k - first) k (omega arith) (below, inl (omega arith))
]

-- the same by other names
pub found_as : (old old' new : Notes) (place place' word : ℕ) → old ≡ old' → place ≡ place' → Found old new place word → Found old' new place' word
found_as old old' new place place' word e f found = subst (λ (p : Notes × ℕ). Found p.0 new p.1 word) (λ i. (e i, f i)) found

pub busy_as : (old old' new : Notes) (place place' : ℕ) → old ≡ old' → place ≡ place' → FoundBusy old new place → FoundBusy old' new place'
busy_as old old' new place place' e f (word, other, found) = (word, other, found_as old old' new place place' word e f found)

-- a place that was found busy was asked
pub busy_was : (old new : Notes) (place : ℕ) → FoundBusy old new place → WasBusy old new place
busy_was old new place (word, other, (before, begins, is)) = (record { word = word; before = before; begins = begins; after = []; is = is }, other)

pub busy_then : (old mid new : Notes) (place : ℕ) → WasBusy old mid place → Begins mid new → WasBusy old new place
unfolding asked_then
busy_then old mid new place (asked, other) more = (asked_then old mid new place asked more, other)

-- what was asked since a later time was asked
pub asked_after : (old mid new : Notes) (place : ℕ) → Begins old mid → WasAsked mid new place → WasAsked old new place
asked_after old mid new place begins a = record {
  word = a.word;
  before = a.before;
  begins = begins_then old mid a.before begins a.begins;
  after = a.after;
  is = a.is;
}

pub busy_after : (old mid new : Notes) (place : ℕ) → Begins old mid → WasBusy mid new place → WasBusy old new place
unfolding asked_after
busy_after old mid new place begins (asked, other) = (asked_after old mid new place begins asked, other)

pub found_busy_after : (old mid new : Notes) (place : ℕ) → Begins old mid → FoundBusy mid new place → FoundBusy old new place
found_busy_after old mid new place begins (word, other, found) = (word, other, found_after old mid new place word begins found)

-- what was given back after more had been asked
pub given_after : (given place place' : ℕ) (old mid new before after : Notes) → place ≡ place' → Begins old mid
    → IsGiven given place mid new before after → IsGiven given place' old new before after
given_after given place place' old mid new before after same begins is =
    subst (λ (p : ℕ). IsGiven given p old new before after) same (go is)
  where
    go : IsGiven given place mid new before after → IsGiven given place old new before after
    go (inl (busy, none)) = inl (found_busy_after old mid new place begins busy, none)
    go (inr (inl (found, busy, none))) = inr (inl (found_after old mid new place 0 begins found, busy, none))
    go (inr (inr (found, arena))) = inr (inr (found_after old mid new place 0 begins found, arena))
