-- Lists that a map makes: what they are made of.
use Rattle.std.proofs.Common.{◌≡◌, zero, suc, Bool, true, cond, List, [], ◌∷◌, sym, ap, ◌∙◌, subst, arith}
use Rattle.std.proofs.lemmas.Bool.{cond_both}
use Rattle.std.specs.Prelude.{All, Contains, map, filter}
use Rattle.std.proofs.Math.ListN as lists
use Rattle.std.proofs.lemmas.List.{length-map}
use Rattle.std.proofs.lemmas.List.Elements.{All-contains}
use Rattle.ebpf_machine.proofs.Lists.ListLemmas.{Contains-head, Contains-tail, All-by_contains}

pub Contains-mapped : {X Y : Type 0} (f : X → Y) (xs : List X) (x : X) → Contains xs x → Contains (map f xs) (f x)
Contains-mapped f xs x h = let long = length-map xs f in (h.0, omega (arith, h.1, long), lists.get_or-map f xs h.0 x ∙ ap f h.2)

-- an element of a list that a map made is made of one
pub Contains-unmapped : {X Y : Type 0} (f : X → Y) (xs : List X) (y : Y) → Contains (map f xs) y → (x : X) × Contains xs x × (f x ≡ y)
Contains-unmapped f [] y (k, lt, e) = absurd (omega (arith, lt))
Contains-unmapped f (x ∷ xs) y (zero, lt, e) = (x, Contains-head x xs, e)
Contains-unmapped f (x ∷ xs) y (suc k, lt, e) =
    let rest = Contains-unmapped f xs y (k, omega (arith, lt), e) in (rest.0, Contains-tail x rest.0 xs rest.1, rest.2)

-- what holds of all that a map makes holds of what it makes of each
pub All-unmapped : {X Y : Type 0} (P : Y → Type 0) (f : X → Y) (xs : List X) → All P (map f xs) → All (λ x. P (f x)) xs
All-unmapped P f xs h = All-by_contains (λ x. P (f x)) xs (λ x among. All-contains P (map f xs) (f x) h (Contains-mapped f xs x among))

-- what passes a test is kept
pub Contains-kept : {X : Type 0} (p : X → Bool) (xs : List X) (x : X) → Contains xs x → p x ≡ true → Contains (filter p xs) x
Contains-kept p [] x (k, lt, e) passes = absurd (omega (arith, lt))
Contains-kept {X} p (y ∷ xs) x (zero, lt, e) passes =
    subst (λ (t : Bool). Contains (cond t (y ∷ filter p xs) (filter p xs)) x) (sym (ap p e ∙ passes)) (zero, omega arith, e)
Contains-kept {X} p (y ∷ xs) x (suc k, lt, e) passes =
    let rest = Contains-kept p xs x (k, omega (arith, lt), e) passes in
    cond_both (p y) (y ∷ filter p xs) (filter p xs) (λ (zs : List X). Contains zs x) (λ t. Contains-tail y x (filter p xs) rest) (λ t. rest)
