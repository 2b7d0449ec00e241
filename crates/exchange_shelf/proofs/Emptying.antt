-- Slots that are emptied one after another, but for one that is empty already.
use Rattle.std.proofs.Common.{◌≡◌, ◌≢◌, ℕ, zero, suc, [], ◌∷◌, ◌+◌, ◌<◌, ◌≤◌, Bool, true, false, List, length, get_or, set, subst, sym, ap, ◌∙◌, arith, get_or-set_same, get_or-set_other}
use Rattle.std.specs.Prelude.{Option, Some, None}
use mathlib.Core.Logic.{dite}
use mathlib.Core.Option.{some, some-injective, some-ne-none}
use lib.ListN.{get_elem?}
use native.Mathlib.Decide.{ℕ_discrete}

-- of this many slots, those below a number are empty, and so is the one
pub record AreEmptied (count one : ℕ) (filled : List Bool) (slot : ℕ) : Type 0 where
  pub full : (k : ℕ) → slot ≤ k → k < count → k ≢ one → get_or filled k false ≡ true
  pub taken : (k : ℕ) → k < slot → get_or filled k false ≡ false
  pub gone : get_or filled one false ≡ false

pub passes-it : (count one : ℕ) (filled : List Bool) (slot : ℕ) → AreEmptied count one filled slot → slot ≡ one
    → AreEmptied count one filled (slot + 1)
passes-it count one filled slot a same = record {
  full = λ k low below other. a.full k (omega arith) below other;
  taken = λ k below. dite (ℕ_discrete k one) (λ e. ap (λ (i : ℕ). get_or filled i false) e ∙ a.gone) (λ ne. a.taken k (omega arith));
  gone = a.gone;
}

pub empties-it : (count one : ℕ) (filled after : List Bool) (slot : ℕ) → AreEmptied count one filled slot → slot ≢ one → slot < length filled
    → after ≡ set filled slot false → AreEmptied count one after (slot + 1)
empties-it count one filled after slot a other inside same = record {
  full = λ k low below far. ap (λ (fs : List Bool). get_or fs k false) same ∙ (get_or-set_other filled slot k false false (λ e. omega arith)
      ∙ a.full k (omega arith) below far);
  taken = λ k below. ap (λ (fs : List Bool). get_or fs k false) same ∙ dite (ℕ_discrete k slot)
      (λ e. ap (λ (i : ℕ). get_or (set filled slot false) i false) e ∙ get_or-set_same filled slot false false inside)
      (λ ne. get_or-set_other filled slot k false false ne ∙ a.taken k (omega arith));
  gone = ap (λ (fs : List Bool). get_or fs one false) same ∙ (get_or-set_other filled slot one false false (λ e. other (sym e)) ∙ a.gone);
}

pub begins-empty : (count one : ℕ) (filled after : List Bool) → ((k : ℕ) → k < count → get_or filled k false ≡ true) → one < length filled
    → after ≡ set filled one false
    → AreEmptied count one after 0
begins-empty count one filled after all inside same = record {
  full = λ k low below far. ap (λ (fs : List Bool). get_or fs k false) same ∙ (get_or-set_other filled one k false false far ∙ all k below);
  taken = λ k below. absurd (omega arith);
  gone = ap (λ (fs : List Bool). get_or fs one false) same ∙ get_or-set_same filled one false false inside;
}

-- what a list has at a place
pub read : (xs : List ℕ) (k x : ℕ) → get_elem? xs k ≡ some x → get_or xs k 0 ≡ x
read [] k x e = absurd (some-ne-none x (sym e))
read (y ∷ ys) zero x e = some-injective y x e
read (y ∷ ys) (suc k) x e = read ys k x e

-- an empty slot has no value
pub not-both : {T : Type 0} (xs : List (Option T)) (k : ℕ) (o : Option T) (x : T) → get_elem? xs k ≡ some None → get_elem? xs k ≡ some o
    → o ≡ Some x → ⊥
not-both {T} xs k o x e f g = subst IsNothing (some-injective None o (sym e ∙ f) ∙ g) tt
  where
    IsNothing : Option T → Type 0
    IsNothing None = Unit {0}
    IsNothing (Some y) = ⊥
