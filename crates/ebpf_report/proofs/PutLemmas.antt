-- A text that is written part after part.
use Rattle.std.proofs.Common.{◌≡◌, ℕ, List, [], ◌++◌, Option, Result, Ok, Err, refl, sym, ap, ◌∙◌, subst, append_assoc, append-nil}
use Rattle.std.specs.Prelude.{IsErrAnd}
use Rattle.ebpf_command.specs.declared.done.EngineFault.{EngineFault}
use Rattle.ebpf_command.specs.Writing.{Sends, Puts}
use Rattle.ebpf_command.proofs.Sending.{sends_answered, sends_more, puts_then, stops_longer}

-- the parts before this one are sent, and this is left of the text
pub record SendsFirst (old new : Option (List ℕ)) (waited waits left text : List ℕ) : Type 0 where
  pub told : List ℕ
  pub sent : Sends old new waited waits told
  pub all : told ++ left ≡ text

pub first_none : (a : Option (List ℕ)) (x text : List ℕ) → SendsFirst a a x x text text
first_none a x text = record { told = []; sent = sends_answered a x x [] (sym (append-nil x)); all = refl }

-- what a `?` returns
pub stopped : (P : Result (Unit {0}) EngineFault → Type 0) (r : Result (Unit {0}) EngineFault) (fault : EngineFault) → IsErrAnd r (λ y. y ≡ fault) → P (Err fault) → P r
stopped P (Ok done) fault h k = absurd h
stopped P (Err y) fault h k = subst (λ (e : EngineFault). P (Err e)) (sym h) k

module _ (a b c : Option (List ℕ)) (x y z left text : List ℕ) (h : SendsFirst a b x y left text) where
  module _ (here rest : List ℕ) (next : left ≡ here ++ rest) where
    split : (h.told ++ here) ++ rest ≡ text
    split = append_assoc h.told here rest ∙ (ap (λ (xs : List ℕ). h.told ++ xs) (sym next) ∙ h.all)

    pub first_more : Sends b c y z here → SendsFirst a c x z rest text
    first_more k = record { told = h.told ++ here; sent = sends_more a b c x y z h.told here h.sent k; all = split }

    pub first_stops : (fault : EngineFault) (r : Result (Unit {0}) EngineFault) → Puts b c y z here (Err fault) → IsErrAnd r (λ y. y ≡ fault) → Puts a c x z text r
    first_stops fault r k is =
        stopped (λ e. Puts a c x z text e) r fault is
        (subst (λ (xs : List ℕ). Puts a c x z xs (Err fault)) split
        (stops_longer a c x z (h.told ++ here) rest fault (puts_then a b c x y z h.told here (Err fault) h.sent k)))

  pub first_last : (r : Result (Unit {0}) EngineFault) → Puts b c y z left r → Puts a c x z text r
  first_last r k = subst (λ (xs : List ℕ). Puts a c x z xs r) h.all (puts_then a b c x y z h.told left r h.sent k)
