-- What an exchange leaves on the shelves.
use Rattle.std.proofs.Common.{◌≡◌, ◌≢◌, ◌⊎◌, inl, inr, ℕ, zero, suc, ◌<◌, List, length, Option, Some, None, option_map, refl, sym, ap, ◌∙◌, subst}
use Rattle.std.specs.Prelude.{IfNone, IfSome, slice_set}
use Rattle.std.proofs.lemmas.Bool.{cases_eq}
use Rattle.std.proofs.lemmas.List.{get_or-set_same, get_or-set_other, length-set}
use Rattle.ebpf_machine.specs.World.{Shelved}
use Rattle.ebpf_shelves.specs.declared.object.Object.{Object}
use Rattle.ebpf_shelves.specs.Shelves.{AreShelves, FitsOn, IsAway, IsExchanged, IsOff, StandsNone, StandsThere, as_shelved, bare, on_shelf, standing_on}

-- ---- bare shelves

pub bare_none : (shelf : ℕ) → on_shelf bare shelf ≡ None
bare_none zero = refl
bare_none (suc zero) = refl
bare_none (suc (suc zero)) = refl
bare_none (suc (suc (suc shelf))) = refl

-- ---- what holds of an object, if it is one

pub some_by : (P : Object → Type 0) (x : Option Object) → ((o : Object) → x ≡ Some o → P o) → IfSome x P
some_by P None holds = tt
some_by P (Some o) holds = holds o refl

pub in_some : (P : Object → Type 0) (x : Option Object) (o : Object) → x ≡ Some o → IfSome x P → P o
in_some P x o is = subst (λ (y : Option Object). IfSome y P) is

-- ---- an exchange

-- an object is in another slot than what is in none of a shelf's
pub away_from : (on : Option Object) (slot : ℕ) → ((o : Object) → on ≡ Some o → slot ≢ o.slot) → IsAway on slot
away_from None slot ne = tt
away_from (Some o) slot ne = ne o refl

pub away_of : (on : Option Object) (o : Object) (slot : ℕ) → on ≡ Some o → IsAway on slot → slot ≢ o.slot
away_of on o slot is = subst (λ (x : Option Object). IsAway x slot) is

module _ (shelves : List (Option Object)) (shelf : ℕ) (given : Option Object) (lt : shelf < length shelves) where
  abbrev after : List (Option Object)
  after = slice_set shelves shelf given

  here : on_shelf after shelf ≡ given
  here = get_or-set_same shelves shelf given None lt

  elsewhere : (other : ℕ) → other ≢ shelf → on_shelf after other ≡ on_shelf shelves other
  elsewhere other ne = get_or-set_other shelves shelf other given None ne

  -- what is on a shelf then is what is given, or was there
  stood : (k : ℕ) (o : Object) → on_shelf after k ≡ Some o → ((k ≡ shelf) × (given ≡ Some o)) ⊎ ((k ≢ shelf) × (on_shelf shelves k ≡ Some o))
  stood k o on = by (cases_eq k shelf) where
    by : (k ≡ shelf) ⊎ (k ≢ shelf) → ((k ≡ shelf) × (given ≡ Some o)) ⊎ ((k ≢ shelf) × (on_shelf shelves k ≡ Some o))
    by (inl same) = inl (same, sym here ∙ ap (on_shelf after) (sym same) ∙ on)
    by (inr ne) = inr (ne, sym (elsewhere k ne) ∙ on)

  pub are_shelves : AreShelves shelves → IfSome given (FitsOn shelf) → IfSome given (λ g. IsOff shelves g.slot) → AreShelves after
  are_shelves are fits off = record {
    long = length-set shelves shelf given ∙ are.long;
    fit = fit;
    apart = λ a b o p on_a on_b same. apart a b o p same (stood a o on_a) (stood b p on_b);
  } where
    new : (o p : Object) (k : ℕ) → given ≡ Some o → on_shelf shelves k ≡ Some p → o.slot ≢ p.slot
    new o p k is on = away_of (on_shelf shelves k) p o.slot on (in_some (λ g. IsOff shelves g.slot) given o is off k)

    fit : (k : ℕ) (o : Object) → on_shelf after k ≡ Some o → FitsOn k o
    fit k o on = by (stood k o on) where
      by : ((k ≡ shelf) × (given ≡ Some o)) ⊎ ((k ≢ shelf) × (on_shelf shelves k ≡ Some o)) → FitsOn k o
      by (inl (same, is)) = subst (λ (n : ℕ). FitsOn n o) (sym same) (in_some (FitsOn shelf) given o is fits)
      by (inr (ne, was)) = are.fit k o was

    apart : (a b : ℕ) (o p : Object) → o.slot ≡ p.slot → ((a ≡ shelf) × (given ≡ Some o)) ⊎ ((a ≢ shelf) × (on_shelf shelves a ≡ Some o))
        → ((b ≡ shelf) × (given ≡ Some p)) ⊎ ((b ≢ shelf) × (on_shelf shelves b ≡ Some p)) → a ≡ b
    apart a b o p same (inl (e, is)) (inl (f, there)) = e ∙ sym f
    apart a b o p same (inl (e, is)) (inr (ne, was)) = absurd (new o p b is was same)
    apart a b o p same (inr (ne, was)) (inl (f, there)) = absurd (new p o a there was (sym same))
    apart a b o p same (inr (ne, was)) (inr (nor, there)) = are.apart a b o p was there same

  pub is_exchanged : (got : Option Object) → AreShelves shelves → IfSome given (λ g. IsOff shelves g.slot) → got ≡ on_shelf shelves shelf
      → IsExchanged shelf given got shelves after
  is_exchanged got are off is = record {
    was = is;
    now = here;
    others = elsewhere;
    fits = some_by (FitsOn shelf) got (λ h e. are.fit shelf h (sym is ∙ e));
    off = some_by (λ h. IsOff after h.slot) got (λ h e k. away_from (on_shelf after k) h.slot (λ o on same. apart h o k (sym is ∙ e) same (stood k o on)));
  } where
    apart : (h o : Object) (k : ℕ) → on_shelf shelves shelf ≡ Some h → h.slot ≡ o.slot
        → ((k ≡ shelf) × (given ≡ Some o)) ⊎ ((k ≢ shelf) × (on_shelf shelves k ≡ Some o)) → ⊥
    apart h o k at same (inl (there, it)) =
        let away = in_some (λ g. IsOff shelves g.slot) given o it off shelf in
        away_of (on_shelf shelves shelf) h o.slot at away (sym same)
    apart h o k at same (inr (ne, was)) = ne (sym (are.apart shelf k h o at was same))

-- ---- what a store answers, over shelves that were exchanged

module _ {shelf : ℕ} {given got : Option Object} {old new : List (Option Object)} (e : IsExchanged shelf given got old new) where
  pub fetched : IfSome got (λ h. StandsThere old shelf h.slot h.bytes.items)
  fetched = some_by (λ h. StandsThere old shelf h.slot h.bytes.items) got (λ h is. ap (option_map as_shelved) (sym e.was ∙ is))

  pub missed : IfNone got (StandsNone old shelf)
  missed = by got e.was where
    by : (x : Option Object) → x ≡ on_shelf old shelf → IfNone x (StandsNone old shelf)
    by None is = ap (option_map as_shelved) (sym is)
    by (Some h) is = tt

  pub left : (what : Option Shelved) → what ≡ standing_on old shelf → option_map as_shelved given ≡ standing_on new shelf
  left what is = ap (option_map as_shelved) (sym e.now)

  pub left_elsewhere : (other : ℕ) (what : Option Shelved) → other ≢ shelf → what ≡ standing_on old other → what ≡ standing_on new other
  left_elsewhere other what ne is = is ∙ ap (option_map as_shelved) (sym (e.others other ne))
