-- An exchange of objects, by the list of the seat.
use Rattle.std.proofs.Common.{◌≡◌, ◌≢◌, ℕ, ◌+◌, Option, Some, None, IfSome, IfNone, List, length, refl, ap, sym, subst, arith}
use Rattle.std.specs.Prelude.{option_map}
use Rattle.owners_table.specs.Owning.{Holds}
use Rattle.ebpf_object.specs.Object.{kind_of, slot_of}
use Rattle.ebpf_object.specs.declared.object.Object.{Object}
use Rattle.ebpf_owned.specs.Claims.{Once}
use Rattle.ebpf_owned.specs.Exchanges.{less, one_if, HasPassed}
use Rattle.ebpf_owned.proofs.Exchanging.{gone, held_got, held_less, held_more, less_length, once_less}

abbrev pub slots : Option Object → Option ℕ
slots o = option_map slot_of o

pub whatever : {X : Type 0} (o : Option X) → IfSome o (λ x. Unit {0})
whatever None = tt
whatever (Some x) = tt

pub even_none : {X : Type 0} (o : Option X) → IfNone o (Unit {0})
even_none None = tt
even_none (Some x) = tt

-- what was got is held
pub is_held : (given : Option ℕ) (got : Option Object) (kind word : ℕ) (held held' : List (ℕ × ℕ))
    → HasPassed given (slots got) word held held' → IfSome got (λ h. kind_of h ≡ kind)
    → IfSome got (λ h. Holds (slot_of h) held' × (kind_of h ≡ kind))
is_held given None kind word held held' p k = tt
is_held given (Some h) kind word held held' p k = (subst (Holds (slot_of h)) (sym p.are) (held_got (slot_of h) word (less given held)), k)

-- in another slot than all that was held
pub is_apart : (given : Option ℕ) (got : Option Object) (word : ℕ) (held held' : List (ℕ × ℕ))
    → HasPassed given (slots got) word held held'
    → IfSome got (λ h. (other : Object) → Holds (slot_of other) held → slot_of other ≢ slot_of h)
is_apart given None word held held' p = tt
is_apart given (Some h) word held held' p = λ other now same. p.fresh (subst (λ s. Holds s held) same now)

-- what was given is no longer held
pub is_gone : (given : Option Object) (got : Option ℕ) (word : ℕ) (held held' : List (ℕ × ℕ))
    → IfSome given (λ g. Holds (slot_of g) held) → Once held → HasPassed (slots given) got word held held'
    → IfSome given (λ g. Holds (slot_of g) held' → ⊥)
is_gone None got word held held' has once p = tt
is_gone (Some g) got word held held' has once p = gone (slot_of g) word got held held' has once p

by_slots : (given : Option Object) (P : ℕ → Type 0) → IfSome given (λ g. P (slot_of g)) → IfSome (slots given) P
by_slots None P h = tt
by_slots (Some g) P h = h

-- and all else is
pub is_still_held : (given : Option Object) (got : Option ℕ) (word : ℕ) (other : Object) (held held' : List (ℕ × ℕ))
    → IfSome given (λ g. Holds (slot_of g) held) → HasPassed (slots given) got word held held'
    → Holds (slot_of other) held → IfSome given (λ g. slot_of other ≢ slot_of g) → Holds (slot_of other) held'
is_still_held given got word other held held' has p now apart =
    let left = held_less (slots given) (slot_of other) held (by_slots given (λ s. Holds s held) has) now (by_slots given (λ s. slot_of other ≢ s) apart) in
    subst (Holds (slot_of other)) (sym p.are) (held_more got word (slot_of other) (less (slots given) held) left)

pub first_of : (given : Option Object) (A B : Object → Type 0) → IfSome given (λ g. A g × B g) → IfSome given A
first_of None A B h = tt
first_of (Some g) A B h = h.0

one_slot : (given : Option Object) → one_if (slots given) ≡ one_if given
one_slot None = refl
one_slot (Some g) = refl

-- how many are held once it was given up
pub length_less : (given : Option Object) (K : Object → Type 0) (held held' : List (ℕ × ℕ))
    → IfSome given (λ g. Holds (slot_of g) held × K g) → held' ≡ less (slots given) held
    → length held' + one_if given ≡ length held
length_less given K held held' has are =
    let l = less_length (slots given) held (by_slots given (λ s. Holds s held) (first_of given (λ g. Holds (slot_of g) held) K has)) in
    omega (arith, l, ap length are, one_slot given)

-- and each slot is held once at most
pub once_given : (given : Option Object) (K : Object → Type 0) (held held' : List (ℕ × ℕ))
    → IfSome given (λ g. Holds (slot_of g) held × K g) → held' ≡ less (slots given) held → Once held → Once held'
once_given given K held held' has are =
    once_less (slots given) held held' (by_slots given (λ s. Holds s held) (first_of given (λ g. Holds (slot_of g) held) K has)) are
