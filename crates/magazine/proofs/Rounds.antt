-- Rounds that move from one magazine to another: as a whole they stay the same.
use Rattle.std.proofs.Common.{◌≡◌, ◌⊎◌, ℕ, ◌<◌, List, [], ◌∷◌, ◌++◌, length, Option, None, Some, refl, sym, ap, ◌∙◌, append_assoc, append-nil}
use Rattle.std.proofs.Common.{length-append, arith, inl, inr}
use Rattle.std.specs.Prelude.{IfSome, option_to_list}
use Rattle.std.specs.List.{concat, All}
use Rattle.std.specs.List.Sorted.{IsPermutation}
use Rattle.std.proofs.lemmas.List.Elements.{All-head}
use Rattle.std.proofs.lemmas.List.Sorted.{IsPermutation-refl, IsPermutation-sym, IsPermutation-trans, IsPermutation-cons, IsPermutation-to_front}
use Rattle.std.proofs.lemmas.List.Sorted.{IsPermutation-append_left, IsPermutation-append_right, IsPermutation-append_comm}
use Rattle.slab_layer.specs.Kinds.{Row, IsRow}
use Rattle.magazine.specs.LayerView.{LayerView, rounds_of, exchanged}
use Rattle.magazine.specs.DepotView.{DepotView}

-- a magazine of any kind holds a round
pub holds_some : (r : Row) → IsRow r → 0 < r.rounds
holds_some r row = elim row [
  | inl cell ↦ let e = ap (λ (q : Row). q.rounds) cell in omega arith
  | inr other ↦ elim other [
    | inl wide ↦ let e = ap (λ (q : Row). q.rounds) wide in omega arith
    | inr block ↦ let e = ap (λ (q : Row). q.rounds) block in omega arith
  ]
]

-- a round on top of the loaded magazine
one_more : (loaded previous : List ℕ) (slot : ℕ) → IsPermutation ((loaded ++ slot ∷ []) ++ previous) (slot ∷ (loaded ++ previous))
one_more loaded previous slot = IsPermutation-append_left previous (loaded ++ slot ∷ []) (slot ∷ loaded) (IsPermutation-to_front loaded slot)

-- a layer whose two magazines were exchanged, or weren't
turned_rounds : (old turned : LayerView) → (turned ≡ exchanged old) ⊎ (turned ≡ old) → IsPermutation (rounds_of old) (rounds_of turned)
turned_rounds old turned (inl is) = rw is (IsPermutation-append_comm old.loaded old.previous)
turned_rounds old turned (inr is) = rw is (IsPermutation-refl (rounds_of old))

-- and one round left its loaded magazine then
pub taken_rounds : (old turned : LayerView) (loaded rest previous : List ℕ) (slot : ℕ) → (turned ≡ exchanged old) ⊎ (turned ≡ old)
    → record { loaded = loaded; previous = previous } ≡ turned → loaded ≡ rest ++ slot ∷ []
    → IsPermutation (rounds_of old) (slot ∷ (rest ++ previous))
taken_rounds old turned loaded rest previous slot from is popped =
    let whole : rounds_of turned ≡ (rest ++ slot ∷ []) ++ previous = sym (ap rounds_of is) ∙ ap (λ (rounds : List ℕ). rounds ++ previous) popped in
    IsPermutation-trans (rounds_of old) (rounds_of turned) _ (turned_rounds old turned from) (rw whole (one_more rest previous slot))

-- or one came onto it
pub given_rounds : (old turned : LayerView) (loaded more previous : List ℕ) (slot : ℕ) → (turned ≡ exchanged old) ⊎ (turned ≡ old)
    → record { loaded = loaded; previous = previous } ≡ turned → more ≡ loaded ++ slot ∷ []
    → IsPermutation (slot ∷ rounds_of old) (more ++ previous)
given_rounds old turned loaded more previous slot from is pushed =
    let whole : slot ∷ rounds_of turned ≡ slot ∷ (loaded ++ previous) = ap (λ (l : LayerView). slot ∷ rounds_of l) (sym is) in
    IsPermutation-trans (slot ∷ rounds_of old) (slot ∷ rounds_of turned) _ (IsPermutation-cons slot (rounds_of old) (rounds_of turned) (turned_rounds old turned from)) (rw (whole, pushed) (IsPermutation-sym _ _ (one_more loaded previous slot)))

-- a whole magazine on top of a stack
concat_push : (ms : List (List ℕ)) (m : List ℕ) → concat (ms ++ m ∷ []) ≡ concat ms ++ m
concat_push [] m = append-nil m
concat_push (l ∷ ls) m = ap (λ r. l ++ r) (concat_push ls m) ∙ sym (append_assoc l (concat ls) m)

-- a depot's rounds, where a full magazine left its stack
pub popped_rounds : (depot : DepotView) (old new : List (List ℕ)) (empties : ℕ) (m out : List ℕ)
    → record { rounds = concat old; empties = empties } ≡ depot → old ≡ new ++ m ∷ [] → out ≡ m
    → IsPermutation depot.rounds (out ++ concat new)
popped_rounds depot old new empties m out is popped same =
    let from : depot.rounds ≡ concat new ++ m = sym (ap (λ (d : DepotView). d.rounds) is) ∙ (ap concat popped ∙ concat_push new m) in
    rw (from, same) (IsPermutation-append_comm (concat new) m)

pub drained_rounds : (depot : DepotView) (old new : List (List ℕ)) (empties : ℕ) (out : Option (List ℕ))
    → record { rounds = concat old; empties = empties } ≡ depot → old ≡ new ++ option_to_list out
    → IfSome out (λ m. IsPermutation depot.rounds (m ++ concat new))
drained_rounds depot old new empties None is popped = tt
drained_rounds depot old new empties (Some m) is popped = popped_rounds depot old new empties m m is popped refl

-- where one came onto it
pub pushed_rounds : (depot : DepotView) (old new : List (List ℕ)) (empties : ℕ) (m given : List ℕ)
    → record { rounds = concat old; empties = empties } ≡ depot → new ≡ old ++ m ∷ [] → m ≡ given
    → IsPermutation (given ++ depot.rounds) (concat new)
pushed_rounds depot old new empties m given is pushed same =
    let to : concat new ≡ concat old ++ m = ap concat pushed ∙ concat_push old m in
    rw (to, ← ap (λ (d : DepotView). d.rounds) is, ← same) (IsPermutation-append_comm m (concat old))

-- where one went from one depot to another
pub moved_rounds : (old new from to m : List ℕ) → IsPermutation old (m ++ new) → IsPermutation (m ++ from) to → IsPermutation (old ++ from) (new ++ to)
moved_rounds old new from to m out came =
    let turned = IsPermutation-trans old (m ++ new) (new ++ m) out (IsPermutation-append_comm m new) in
    IsPermutation-trans (old ++ from) ((new ++ m) ++ from) (new ++ to) (IsPermutation-append_left from old (new ++ m) turned) (rw (append_assoc new m from) (IsPermutation-append_right new (m ++ from) to came))

-- where there is no round, no magazine is full
pub none_full : (full : List (List ℕ)) (rounds : ℕ) → 0 < rounds → All (λ m. length m ≡ rounds) full → concat full ≡ [] → length full ≡ 0
none_full [] rounds some all none = refl
none_full (m ∷ ms) rounds some all none =
    let len = All-head (λ (l : List ℕ). length l ≡ rounds) m ms all in
    let e = ap length none in
    absurd (omega (arith, length-append m (concat ms)))
