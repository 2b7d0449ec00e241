-- What a call of swap leaves of the objects that are out, beside the one that is lent.
use Rattle.std.proofs.Common.{◌≡◌, ◌≢◌, ◌⊎◌, inl, inr, ℕ, ◌+◌, cond, List, Option, Some, None, refl, sym, ap, ◌∙◌, subst, arith}
use Rattle.std.specs.Prelude.{IfSome}
use Rattle.std.proofs.lemmas.Bool.{cases_eq, eq-eqb}
use Rattle.ebpf_machine.specs.Store.{one_of}
use Rattle.ebpf_shelves.specs.declared.object.Object.{Object}
use Rattle.ebpf_shelves.specs.Shelves.{FitsOn, IsAway, IsExchanged, IsOff, on_shelf}
use Rattle.ebpf_shelves.proofs.Shelving.{away_from, away_of, in_some, some_by}
use Rattle.ebpf_core.specs.Passing.{AreAway, IsOut, is_bare, out_of_kind}

-- what is given is out, and of the shelf's kind
abbrev pub IsGivable : Option Object → List (Option Object) → ℕ → Option Object → Type 0
IsGivable lent shelves shelf given = IfSome given (λ g. IsOut lent shelves g × (g.kind ≡ shelf))

module _ (lent : Option Object) {shelf : ℕ} {given got : Option Object} {old new : List (Option Object)} (e : IsExchanged shelf given got old new) where
  -- none on the shelves is in the slot of the one that is lent
  pub away_then : AreAway lent old → IsGivable lent old shelf given → AreAway lent new
  away_then away out k o p on is = by (cases_eq k shelf) where
    by : (k ≡ shelf) ⊎ (k ≢ shelf) → o.slot ≢ p.slot
    by (inl same) =
        let it : given ≡ Some o = sym e.now ∙ ap (on_shelf new) (sym same) ∙ on in
        away_of lent p o.slot is (in_some (λ g. IsOut lent old g × (g.kind ≡ shelf)) given o it out).0.away
    by (inr ne) = away k o p (sym (e.others k ne) ∙ on) is

  -- what came off is out
  pub got_out : AreAway lent old → IfSome got (λ h. IsOut lent new h × (h.kind ≡ shelf))
  got_out away = some_by (λ h. IsOut lent new h × (h.kind ≡ shelf)) got (λ h is.
      let fits = in_some (FitsOn shelf) got h is e.fits in
      let off = in_some (λ x. IsOff new x.slot) got h is e.off in
      (record { sized = fits.0; away = away_from lent h.slot (λ p there. away shelf h p (sym e.was ∙ is) there); off = off }, fits.1))

  -- it wasn't before
  pub got_apart : IfSome got (λ h. (other : Object) → IsOut lent old other → other.slot ≢ h.slot)
  got_apart = some_by (λ h. (other : Object) → IsOut lent old other → other.slot ≢ h.slot) got (λ h is other out.
      away_of (on_shelf old shelf) h other.slot (sym e.was ∙ is) (out.off shelf))

  -- what is given is out no longer
  pub given_gone : IfSome given (λ g. IsOut lent new g → ⊥)
  given_gone = some_by (λ g. IsOut lent new g → ⊥) given (λ g is out. away_of (on_shelf new shelf) g g.slot (e.now ∙ is) (out.off shelf) refl)

  -- what else is out stays so
  pub others_out : (other : Object) → IsOut lent old other → IfSome given (λ g. other.slot ≢ g.slot) → IsOut lent new other
  others_out other out apart = record { sized = out.sized; away = out.away; off = λ k. by k (cases_eq k shelf) } where
    by : (k : ℕ) → (k ≡ shelf) ⊎ (k ≢ shelf) → IsAway (on_shelf new k) other.slot
    by k (inl same) = away_from (on_shelf new k) other.slot (λ g on.
        in_some (λ x. other.slot ≢ x.slot) given g (sym e.now ∙ ap (on_shelf new) (sym same) ∙ on) apart)
    by k (inr ne) = subst (λ (x : Option Object). IsAway x other.slot) (sym (e.others k ne)) (out.off k)

  -- and that many are out
  pub counted : (k : ℕ) → out_of_kind lent new k + one_of given shelf k ≡ out_of_kind lent old k + one_of got shelf k
  counted k = by (cases_eq k shelf) where
    bare_there : (x : Option Object) → k ≡ shelf → is_bare x + one_of x shelf k ≡ 1
    bare_there None same = refl
    bare_there (Some o) same = let one = ap (λ b. cond {A = ℕ} b 1 0) (eq-eqb k shelf same) in omega (arith, one)

    none_there : (x : Option Object) → k ≢ shelf → one_of x shelf k ≡ 0
    none_there None ne = refl
    none_there (Some o) ne = grind (arith, ne)

    by : (k ≡ shelf) ⊎ (k ≢ shelf) → out_of_kind lent new k + one_of given shelf k ≡ out_of_kind lent old k + one_of got shelf k
    by (inl same) =
        let now = ap is_bare (ap (on_shelf new) same ∙ e.now) in
        let was = ap is_bare (ap (on_shelf old) same ∙ sym e.was) in
        let left = bare_there given same in
        let got_one = bare_there got same in
        omega (arith, now, was, left, got_one)
    by (inr ne) =
        let stays = ap is_bare (e.others k ne) in
        let left = none_there given ne in
        let got_none = none_there got ne in
        omega (arith, stays, left, got_none)

-- where the one that is lent stays
pub record IsSwapped (lent now : Option Object) (shelf : ℕ) (given got : Option Object) (old new : List (Option Object)) : Type 0 where
  pub out : IfSome got (λ h. IsOut now new h × (h.kind ≡ shelf))
  pub apart : IfSome got (λ h. (other : Object) → IsOut lent old other → other.slot ≢ h.slot)
  pub counted : (k : ℕ) → out_of_kind now new k + one_of given shelf k ≡ out_of_kind lent old k + one_of got shelf k
  pub gone : IfSome given (λ g. IsOut now new g → ⊥)
  pub others : (other : Object) → IsOut lent old other → IfSome given (λ g. other.slot ≢ g.slot) → IsOut now new other

pub swapped : (lent now : Option Object) {shelf : ℕ} {given got : Option Object} {old new : List (Option Object)}
    → now ≡ lent → IsExchanged shelf given got old new → AreAway lent old
    → IsSwapped lent now shelf given got old new
swapped lent now {shelf} {given} {got} {old} {new} same e away = subst (λ (x : Option Object). IsSwapped lent x shelf given got old new) (sym same) (record {
  out = got_out lent e away;
  apart = got_apart lent e;
  counted = counted lent e;
  gone = given_gone lent e;
  others = others_out lent e;
})
