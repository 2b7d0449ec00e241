-- Seats that are joined from the last to the first.
use Rattle.std.proofs.Common.{◌≡◌, ℕ, zero, suc, List, [], ◌∷◌, ◌++◌, length, map, reverse, refl, sym, ap, ◌∙◌, subst, arith, append_assoc, length-append}
use Rattle.std.specs.List.{All}
use Rattle.std.specs.Prelude.{sum_by}
use Rattle.std.proofs.lemmas.List.{reverse-append, map-append}
use Rattle.std.proofs.lemmas.List.Sums.{sum_by-cons, sum_by_push}
use Rattle.atomic_table.specs.Seated.{TableId}
use Rattle.atomic_table.specs.Table.{Me}

-- the last one's comes first
pub last-first : {A B : Type 0} (f : A → B) (xs : List A) (x : A) → reverse (map f (xs ++ x ∷ [])) ≡ f x ∷ reverse (map f xs)
last-first f xs x = ap reverse (map-append f xs (x ∷ [])) ∙ reverse-append (map f xs) (f x ∷ [])

pub all_front : {A : Type 0} (P : A → Type 0) (xs : List A) (x : A) → All P (xs ++ x ∷ []) → All P xs
all_front P [] x h k d l = absurd (omega arith)
all_front P (y ∷ ys) x h zero d l = h zero d (omega arith)
all_front P (y ∷ ys) x h (suc k) d l = all_front P ys x (λ j e m. h (suc j) e (omega arith)) k d (omega arith)

pub all_last : {A : Type 0} (P : A → Type 0) (xs : List A) (x : A) → All P (xs ++ x ∷ []) → P x
all_last P [] x h = h zero x (omega arith)
all_last P (y ∷ ys) x h = all_last P ys x (λ j e m. h (suc j) e (omega arith))

-- What was joined of the seats of a table so far, and the seats that are left: together they have all sheets, the last one's first
pub record Joined {S T : Type 0} (sheet : S → T) (Own : S → Type 0) (at : TableId) (seats : List S) (id : TableId) (me : Me (Unit {0}) (List T)) (left : List S) : Type 0 where
  pub table : id ≡ at
  pub bare : me.1 ≡ []
  pub sheets : me.0 ++ reverse (map sheet left) ≡ reverse (map sheet seats)
  pub others : All Own left

-- the last of the seats that are left is the table's too
pub last-own : {S T : Type 0} (sheet : S → T) (Own : S → Type 0) (at : TableId) (seats : List S) (id : TableId) (me : Me (Unit {0}) (List T))
    (before left : List S) (other : S) → Joined sheet Own at seats id me before → before ≡ left ++ other ∷ [] → Own other
last-own sheet Own at seats id me before left other so_far popped = all_last Own left other (subst (All Own) popped so_far.others)

-- and is joined
pub joins-last : {S T : Type 0} (sheet : S → T) (Own : S → Type 0) (at : TableId) (seats : List S) (id id' : TableId) (me me' : Me (Unit {0}) (List T))
    (v : List T) (before left : List S) (other : S) → Joined sheet Own at seats id me before → before ≡ left ++ other ∷ []
    → id' ≡ id → me'.0 ≡ me.0 ++ v → me'.1 ≡ me.1 → v ≡ sheet other ∷ [] → Joined sheet Own at seats id' me' left
joins-last sheet Own at seats id id' me me' v before left other so_far popped same joined carried one = record {
  table = same ∙ so_far.table;
  bare = carried ∙ so_far.bare;
  sheets =
      ap (λ w. w ++ reverse (map sheet left)) joined
      ∙ (ap (λ w. (me.0 ++ w) ++ reverse (map sheet left)) one
      ∙ (append_assoc me.0 (sheet other ∷ []) (reverse (map sheet left))
      ∙ (ap (λ w. me.0 ++ w) (sym (ap (λ ss. reverse (map sheet ss)) popped ∙ last-first sheet left other)) ∙ so_far.sheets)));
  others = all_front Own left other (subst (All Own) popped so_far.others);
}

-- sums and lengths go by no order
pub sum_by-joined : {A B : Type 0} (g : A → B) (f : B → ℕ) (xs : List A) → sum_by f (reverse (map g xs)) ≡ sum_by (λ x. f (g x)) xs
sum_by-joined g f [] = refl
sum_by-joined g f (x ∷ xs) =
    let e = ap (sum_by f) (reverse-append (g x ∷ []) (map g xs)) in
    let p = sum_by_push f (reverse (map g xs)) (g x) in
    let c = sum_by-cons (λ x. f (g x)) x xs in
    omega (arith, sum_by-joined g f xs)

pub length-joined : {A B : Type 0} (g : A → B) (xs : List A) → length (reverse (map g xs)) ≡ length xs
length-joined g [] = refl
length-joined g (x ∷ xs) =
    let e = ap length (reverse-append (g x ∷ []) (map g xs)) in
    let a = length-append (reverse (map g xs)) (g x ∷ []) in
    omega (arith, length-joined g xs)
