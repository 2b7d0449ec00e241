-- A function that passes its parameters on: what its callee says of each at the end is what it says.
use Rattle.std.proofs.Common.{ℕ, List, [], ◌∷◌}
use seplogic.Ra.Ura.{Ura}
use types.Logic.{Logic}
use types.Kit.{‵, ◌$◌, ◌∵◌, !, qed, done, updating, now as at_once}
use denote.Exit.{Kept, left}
use denote.Signature.{Slot}
use denote.Triple.End.{Kepts}
use denote.Triple.Walked.{Stay, Stays, Goes, AllGo}

abbrev pub pass : {n : ℕ} (s : Slot n) (k : Kept) → Stay s k
pass s k = record { fit = λ κs x f. Unit {0}; has = λ κs x f vs. left ((s.row κs).exit k) x f }

abbrev pub passes : {n : ℕ} (ss : List (Slot n)) (ks : Kepts ss) → Stays ss ks
passes [] ks = tt
passes (s ∷ ss) ks = (pass s ks.0, passes ss ks.1)

module _ {M : Type 1} {𝓤 : Ura M} (𝓛 : Logic 𝓤) where
  Goes-pass : (n : ℕ) (s : Slot n) (k : Kept) → Goes 𝓛 n s k (pass s k)
  Goes-pass n s k κs x f vs fits = qed 𝓛 (‵ (left ((s.row κs).exit k) x f) ∷ []) ∵ updating ! $ at_once ! $ done !

  pub Goes-passes : (n : ℕ) (ss : List (Slot n)) (ks : Kepts ss) → AllGo 𝓛 n ss ks (passes ss ks)
  Goes-passes n [] ks = tt
  Goes-passes n (s ∷ ss) ks = (Goes-pass n s ks.0, Goes-passes n ss ks.1)
