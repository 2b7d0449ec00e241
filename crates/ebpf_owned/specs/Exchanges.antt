-- What a call of swap does to a seat: it gives one slot up, or none, and claims one, or none.
use Rattle.std.specs.Prelude.{◌≡◌, ℕ, ◌+◌, List, ◌∷◌, length, Option, Some, None, IfSome, option_map}
use Rattle.owners_table.specs.Owning.{Holds, SeatView, without}
use Rattle.ebpf_object.specs.Object.{kind_of, slot_of}
use Rattle.ebpf_object.specs.declared.object.Object.{Object}
use Rattle.ebpf_owned.specs.Claims.{shelved_by}

-- one, or none
abbrev pub one_if : {X : Type 0} → Option X → ℕ
one_if None = 0
one_if (Some x) = 1

-- the list without the slot that was given up, if one was
abbrev pub less : Option ℕ → List (ℕ × ℕ) → List (ℕ × ℕ)
less None es = es
less (Some slot) es = without slot es

-- the list with the slot that was got, if one was, and the word that claims it
abbrev pub more : Option ℕ → ℕ → List (ℕ × ℕ) → List (ℕ × ℕ)
more None word es = es
more (Some slot) word es = (slot, word) ∷ es

-- the seat after it passed the slot, if there is one, to the shelf of this number
abbrev pub shelved_if : SeatView → Option ℕ → (shelf : ℕ) → SeatView
shelved_if s None shelf = s
shelved_if s (Some slot) shelf = shelved_by s slot shelf

-- a seat gave up the slot of what was given, and claimed that of what was got with this word, which it didn't hold
pub record HasPassed (given got : Option ℕ) (word : ℕ) (held held' : List (ℕ × ℕ)) : Type 0 where
  pub are : held' ≡ more got word (less given held)
  pub fresh : IfSome got (λ slot. Holds slot held → ⊥)
  pub balance : length held' + one_if given ≡ length held + one_if got

-- the same of objects, by their slots
abbrev pub HasSwapped : (given got : Option Object) (word : ℕ) (held held' : List (ℕ × ℕ)) → Type 0
HasSwapped given got word held held' = HasPassed (option_map slot_of given) (option_map slot_of got) word held held'

-- what is given is held, and of the shelf's kind
abbrev pub IsSwappable : Option Object → (shelf : ℕ) (held : List (ℕ × ℕ)) → Type 0
IsSwappable given shelf held = IfSome given (λ g. Holds (slot_of g) held × (kind_of g ≡ shelf))
