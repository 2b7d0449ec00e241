-- Two lists that are joined, element by element.
use Rattle.std.proofs.Common.{◌≡◌, ◌≢◌, ℕ, zero, suc, ◌+◌, ◌<◌, ◌≤◌, List, [], ◌∷◌, length, get_or, set, refl, sym, ap, ◌∙◌, arith, below_more, length-set}
use Rattle.std.specs.Prelude.{map}
use Rattle.std.proofs.lemmas.List.{ext_get_or, get_or-set_same, get_or-set_other}
use Rattle.ebpf_state.specs.States.{joined_list}

pub joined_list-length : {X : Type 0} (join : X → X → X) (s t : List X) → length s ≡ length t → length (joined_list join s t) ≡ length s
joined_list-length join [] t e = refl
joined_list-length join (a ∷ s) [] e = absurd (omega arith)
joined_list-length join (a ∷ s) (b ∷ t) e = omega (arith, joined_list-length join s t (omega arith))

pub joined_list-index : {X : Type 0} (join : X → X → X) (d : X) (s t : List X) (k : ℕ) → length s ≡ length t → k < length s
    → get_or (joined_list join s t) k d ≡ join (get_or s k d) (get_or t k d)
joined_list-index join d [] t k e lt = absurd (omega arith)
joined_list-index join d (a ∷ s) [] k e lt = absurd (omega arith)
joined_list-index join d (a ∷ s) (b ∷ t) zero e lt = refl
joined_list-index join d (a ∷ s) (b ∷ t) (suc k) e lt = joined_list-index join d s t k (omega arith) (omega arith)

-- a list whose first i elements are joined, and whose others are those of the left one
pub record IsJoining {X : Type 0} (join : X → X → X) (d : X) (left right joined : List X) (i : ℕ) : Type 0 where
  pub whole : length joined ≡ length left
  pub same : length left ≡ length right
  pub done : (k : ℕ) → k < i → get_or joined k d ≡ join (get_or left k d) (get_or right k d)
  pub rest : (k : ℕ) → i ≤ k → get_or joined k d ≡ get_or left k d

pub joining_none : {X : Type 0} (join : X → X → X) (d : X) (left right : List X) → length left ≡ length right
    → IsJoining join d left right left 0
joining_none join d left right e = record { whole = refl; same = e; done = λ k lt. absurd (omega arith); rest = λ k le. refl }

pub joining_more : {X : Type 0} (join : X → X → X) (d : X) (left right joined : List X) (i : ℕ) (x : X)
    → i < length left → IsJoining join d left right joined i → x ≡ join (get_or joined i d) (get_or right i d)
    → IsJoining join d left right (set joined i x) (i + 1)
joining_more join d left right joined i x lt h e =
    let inside : i < length joined = omega (arith, h.whole) in
    record {
      whole = length-set joined i x ∙ h.whole;
      same = h.same;
      done = below_more _ _
          (λ k below. let other : k ≢ i = omega arith in get_or-set_other joined i k x d other ∙ h.done k below)
          (get_or-set_same joined i x d inside ∙ (e ∙ ap (λ a. join a (get_or right i d)) (h.rest i (omega arith))));
      rest = λ k le. let other : k ≢ i = omega arith in get_or-set_other joined i k x d other ∙ h.rest k (omega arith);
    }

pub joining_all : {X : Type 0} (join : X → X → X) (d : X) (left right joined : List X) (i : ℕ) → length left ≡ i
    → IsJoining join d left right joined i → joined ≡ joined_list join left right
joining_all join d left right joined i e h =
    let long = joined_list-length join left right h.same in
    ext_get_or d joined (joined_list join left right) (omega (arith, h.whole)) (λ k lt. h.done k (omega (arith, h.whole)) ∙ sym (joined_list-index join d left right k h.same (omega (arith, h.whole))))

-- ---- a list that is changed in place, element by element, is joined with itself

joined_alone : {X : Type 0} (f : X → X) (s : List X) → joined_list (λ x y. f x) s s ≡ map f s
joined_alone f [] = refl
joined_alone f (x ∷ s) = ap (λ (t : List _). f x ∷ t) (joined_alone f s)

-- a list whose first i elements are changed, and whose others are those of the old one
abbrev pub IsChanging : {X : Type 0} → (X → X) → X → List X → List X → ℕ → Type 0
IsChanging f d old changed i = IsJoining (λ x y. f x) d old old changed i

pub changing_none : {X : Type 0} (f : X → X) (d : X) (old : List X) → IsChanging f d old old 0
changing_none f d old = joining_none (λ x y. f x) d old old refl

pub changing_more : {X : Type 0} (f : X → X) (d : X) (old changed : List X) (i : ℕ) (x : X) → i < length changed
    → IsChanging f d old changed i → x ≡ f (get_or changed i d) → IsChanging f d old (set changed i x) (i + 1)
changing_more f d old changed i x lt h e = joining_more (λ x y. f x) d old old changed i x (omega (arith, lt, h.whole)) h e

pub changing_all : {X : Type 0} (f : X → X) (d : X) (old changed : List X) (i : ℕ) → length changed ≡ i
    → IsChanging f d old changed i → changed ≡ map f old
changing_all f d old changed i e h = joining_all (λ x y. f x) d old old changed i (omega (arith, e, h.whole)) h ∙ joined_alone f old
