-- The derived equality of two lists of references.
use Rattle.std.proofs.Common.{◌≡◌, List, [], ◌∷◌, refl}
use lib.Pointwise.{pointwise}
use Rattle.ebpf_state.specs.declared.held.Held.{Held}
use Rattle.ebpf_state.specs.contracts.held.HeldPartialEq.TheImpl as derived
use Rattle.ebpf_state.specs.States.{is_same_held, is_same_reference}

same : (a b : Held) → (derived.eq-value).it a b ≡ is_same_reference a b
same a b = refl

pub pointwise-same_held : (a b : List Held) → pointwise (derived.eq-value).it a b ≡ is_same_held a b
pointwise-same_held [] [] = refl
pointwise-same_held [] (b ∷ bs) = refl
pointwise-same_held (a ∷ as') [] = refl
pointwise-same_held (a ∷ as') (b ∷ bs) = rw (same a b, pointwise-same_held as' bs) refl
