-- Seats that are dealt out of one with all sheets, one at a time.
use Rattle.std.proofs.Common.{◌≡◌, ℕ, suc, ◌+◌, ◌-◌, ◌<◌, ◌≤◌, List, [], ◌∷◌, ◌++◌, drop, take, replicate, sym, ap, ◌∙◌, subst, arith}
use Rattle.std.proofs.lemmas.List.Elements.{All-push}
use Rattle.std.specs.List.{All}
use Rattle.atomic_table.specs.Seated.{TableId}
use Rattle.atomic_table.specs.declared.shared.Seat.{Seat}
use Rattle.owners_table.specs.Sheets.{first_or}

-- A table's seats, of which all before `next` but the first are dealt: the rest has a sheet for each of the others
pub record Dealt {S T : Type 0} (blank : T) (new : S) (at : TableId) (seats next : ℕ) (rest : Seat (Unit {0}) (List T)) (len capacity : ℕ) (items : List S) : Type 0 where
  pub table : rest.table_id ≡ at
  pub sheets : rest.me.0 ≡ replicate (suc (seats - next)) blank
  pub bare : rest.me.1 ≡ []
  pub counted : len + 1 ≡ next
  pub room : seats ≤ capacity
  pub all : All (λ s. s ≡ new) items

-- one sheet is the first
pub only-first : {A : Type 0} (blank a : A) (v : List A) → v ≡ a ∷ [] → v ≡ first_or blank v ∷ []
only-first blank a v e = e ∙ ap (λ w. first_or blank w ∷ []) (sym e)

-- a seat of one sheet still is one after a step that takes nothing
pub still-single : {A : Type 0} (blank a : A) (v : List A) (now before : List (ℕ × Unit {0})) → v ≡ a ∷ [] → now ≡ before → before ≡ []
    → (v ≡ first_or blank v ∷ []) × (now ≡ [])
still-single blank a v now before one same bare = (only-first blank a v one, same ∙ bare)

module _ {S T : Type 0} (blank : T) (new : S) (at : TableId) (seats next : ℕ) (rest : Seat (Unit {0}) (List T)) (len capacity : ℕ) (items : List S) where
  -- nothing was dealt yet
  pub deals-none : rest.table_id ≡ at → (n : ℕ) → n ≡ seats → 0 < seats → rest.me.0 ≡ replicate n blank → rest.me.1 ≡ []
      → len ≡ 0 → next ≡ 1 → seats ≤ capacity → items ≡ [] → Dealt blank new at seats next rest len capacity items
  deals-none table n is some sheets bare none first room empty =
      let e : n ≡ suc (seats - next) = omega arith in record {
        table = table;
        sheets = sheets ∙ ap (λ k. replicate k blank) e;
        bare = bare;
        counted = omega arith;
        room = room;
        all = subst (All (λ s. s ≡ new)) (sym empty) (λ k d l. absurd (omega arith));
      }

  module _ (so_far : Dealt blank new at seats next rest len capacity items) where
    -- there is room for one more
    pub room-left : next ≤ seats → len < capacity
    room-left l = let n = so_far.counted in let room = so_far.room in omega arith

    -- the first sheet of the rest is blank, and in the end it is the only one
    pub first-blank : (v : List T) → v ≡ take 1 rest.me.0 → v ≡ blank ∷ []
    first-blank v e = e ∙ ap (take 1) so_far.sheets

    pub last-blank : seats ≤ next → rest.me.0 ≡ blank ∷ []
    last-blank end = let e : seats - next ≡ 0 = omega arith in so_far.sheets ∙ ap (λ k. replicate (suc k) blank) e

    -- one more is dealt
    pub deals-one : next < seats → (dealt rest' : Seat (Unit {0}) (List T)) (len' capacity' : ℕ) (items' : List S) (seat : S)
        → dealt.table_id ≡ rest.table_id → dealt.me.0 ≡ take 1 rest.me.0 → (dealt.table_id ≡ at → dealt.me.0 ≡ blank ∷ [] → seat ≡ new)
        → rest'.table_id ≡ rest.table_id → rest'.me.0 ≡ drop 1 rest.me.0 → rest'.me.1 ≡ rest.me.1
        → len' ≡ len + 1 → (seats ≤ capacity → seats ≤ capacity') → items' ≡ items ++ seat ∷ []
        → Dealt blank new at seats (next + 1) rest' len' capacity' items'
    deals-one more dealt rest' len' capacity' items' seat its first is same less carried longer room pushed =
        let e : seats - next ≡ suc (seats - (next + 1)) = omega arith in
        let n = so_far.counted in
        let new_is = is (its ∙ so_far.table) (first-blank dealt.me.0 first) in record {
          table = same ∙ so_far.table;
          sheets = less ∙ (ap (drop 1) so_far.sheets ∙ ap (λ k. replicate k blank) e);
          bare = carried ∙ so_far.bare;
          counted = omega arith;
          room = room so_far.room;
          all = subst (All (λ s. s ≡ new)) (sym pushed) (All-push (λ s. s ≡ new) items seat so_far.all new_is);
        }

    -- the rest is the last
    pub deals-last : next ≤ seats → seats ≤ next → (len' : ℕ) (items' : List S) (seat : S) → len' ≡ len + 1 → items' ≡ items ++ seat ∷ [] → seat ≡ new
        → (len' ≡ seats) × All (λ s. s ≡ new) items'
    deals-last l end len' items' seat longer pushed is =
        let n = so_far.counted in (omega arith, subst (All (λ s. s ≡ new)) (sym pushed) (All-push (λ s. s ≡ new) items seat so_far.all is))
