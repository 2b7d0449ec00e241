-- What a call of swap leaves of the table of slots and on the shelves.
use Rattle.std.proofs.Common.{◌≡◌, ◌≢◌, ◌⊎◌, inl, inr, ℕ, ◌+◌, Bool, true, false, List, []}
use Rattle.std.proofs.Common.{◌∷◌, ◌++◌, Option, Some, None, refl, sym, ap, ◌∙◌, subst, arith, ◌<◌, length}
use Rattle.std.specs.Prelude.{IfSome, if◌then◌else◌, slice_get, slice_set}
use Rattle.std.proofs.lemmas.Bool.{cases_eq}
use Rattle.std.proofs.lemmas.Option.{slice_get_within}
use Rattle.ebpf_machine.specs.Store.{one_of}
use Rattle.ebpf_machine.proofs.Lists.ListLemmas.{get_push, get_set_other}
use Rattle.ebpf_shelves.specs.declared.object.Object.{Object}
use Rattle.ebpf_shelves.specs.Shelves.{FitsOn, IsExchanged, IsOff, on_shelf}
use Rattle.ebpf_shelves.proofs.Shelving.{away_from, away_of, in_some, some_by}
use Rattle.ebpf_shelves.specs.declared.store.Entry.{Entry}
use Rattle.ebpf_shelves.specs.Store.{AreStanding, IsOut, marked, out_of_kind}
use Rattle.ebpf_shelves.proofs.Slots.{flag_in, given_counted, got_counted, marked_other, marked_same}

-- what is on a shelf, by the table
abbrev Stands : List Entry → (shelf slot : ℕ) → Type 0
Stands table shelf slot = slice_get table slot ≡ Some (record { kind = shelf; is_out = false })

-- it is in another slot than what is out
out_apart : (table : List Entry) (o : Object) (shelf slot : ℕ) → IsOut table o → Stands table shelf slot → o.slot ≢ slot
out_apart table o shelf slot out on same =
    let flags : true ≡ false = sym (ap flag_in out.entry) ∙ ap (λ (at : ℕ). flag_in (slice_get table at)) same ∙ ap flag_in on in
    absurd (cc)

-- ---- where the table changes elsewhere

-- what is on shelves is there still when a slot more is granted, or memory runs out for it
pub stands_granted : (table : List Entry) (shelves : List (Option Object)) (new : Entry) (done : Bool) (now : List Entry)
    → now ≡ (if done then table ++ new ∷ [] else table) → AreStanding table shelves → AreStanding now shelves
stands_granted table shelves new done now is standing = subst (λ (entries : List Entry). AreStanding entries shelves) (sym is) (by done) where
  by : (b : Bool) → AreStanding (if b then table ++ new ∷ [] else table) shelves
  by false = standing
  by true = λ shelf o on. get_push table o.slot _ new (standing shelf o on)

-- and when an object that is out is given back
pub stands_given : (table : List Entry) (shelves : List (Option Object)) (given : Object) (entry : Entry)
    → AreStanding table shelves → IsOut table given → AreStanding (slice_set table given.slot entry) shelves
stands_given table shelves given entry standing out shelf o on =
    let was = standing shelf o on in
    let apart = out_apart table given shelf o.slot out was in
    get_set_other table given.slot o.slot entry (λ e. apart (sym e)) ∙ was

-- ---- an exchange

-- what is given is out, and of the shelf's kind
abbrev pub IsGivable : List Entry → ℕ → Option Object → Type 0
IsGivable table shelf given = IfSome given (λ g. IsOut table g × (g.kind ≡ shelf))

-- so no shelf has its slot
pub given_off : (table : List Entry) (shelves : List (Option Object)) (shelf : ℕ) (given : Option Object)
    → AreStanding table shelves → IsGivable table shelf given → IfSome given (λ g. IsOff shelves g.slot)
given_off table shelves shelf None standing out = tt
given_off table shelves shelf (Some g) standing out = λ k. away_from (on_shelf shelves k) g.slot (λ o on. out_apart table g k o.slot out.0 (standing k o on))

module _ (table : List Entry) {shelf : ℕ} {given got : Option Object} {old new : List (Option Object)} (e : IsExchanged shelf given got old new)
    (standing : AreStanding table old) (givable : IsGivable table shelf given) where
  -- what is given is out no longer, and then what was on the shelf is out
  abbrev between : List Entry
  between = marked table given false

  abbrev pub after : List Entry
  after = marked between got true

  given_is : (o : Object) → given ≡ Some o → IsOut table o × (o.kind ≡ shelf)
  given_is o is = in_some (λ g. IsOut table g × (g.kind ≡ shelf)) given o is givable

  -- what was there isn't among those that are out
  pub got_apart : IfSome got (λ h. (other : Object) → IsOut table other → other.slot ≢ h.slot)
  got_apart = some_by (λ h. (other : Object) → IsOut table other → other.slot ≢ h.slot) got (λ h is other out.
      out_apart table other shelf h.slot out (standing shelf h (sym e.was ∙ is)))

  got_other : (other : Object) → IsOut table other → IfSome got (λ h. other.slot ≢ h.slot)
  got_other other out = some_by (λ h. other.slot ≢ h.slot) got (λ h is.
      in_some (λ x. (o : Object) → IsOut table o → o.slot ≢ x.slot) got h is got_apart other out)

  -- and what is given is in another slot than whatever is on a shelf
  still : (k slot : ℕ) → Stands table k slot → Stands between k slot
  still k slot on = marked_other table given false slot (some_by (λ g. slot ≢ g.slot) given (λ g is same.
      out_apart table g k slot (given_is g is).0 on (sym same))) ∙ on

  got_between : IfSome got (λ h. (h.kind ≡ shelf) × Stands between shelf h.slot)
  got_between = some_by (λ h. (h.kind ≡ shelf) × Stands between shelf h.slot) got (λ h is.
      ((in_some (FitsOn shelf) got h is e.fits).1, still shelf h.slot (standing shelf h (sym e.was ∙ is))))

  at_between : (h : Object) → got ≡ Some h → Stands between shelf h.slot
  at_between h is = (in_some (λ x. (x.kind ≡ shelf) × Stands between shelf x.slot) got h is got_between).1

  pub got_inside : IfSome got (λ h. h.slot < length between)
  got_inside = some_by (λ h. h.slot < length between) got (λ h is. slice_get_within between h.slot _ (at_between h is))

  -- what was there is out
  pub got_out : IfSome got (λ h. IsOut after h × (h.kind ≡ shelf))
  got_out = some_by (λ h. IsOut after h × (h.kind ≡ shelf)) got (λ h is.
      let fits = in_some (FitsOn shelf) got h is e.fits in
      let entry = ap (λ (x : Option Object). slice_get (marked between x true) h.slot) is ∙ marked_same between h true _ (at_between h is) in
      (record { entry = entry; sized = fits.0 }, fits.1))

  -- what else is out stays so
  pub others_out : (other : Object) → IsOut table other → IfSome given (λ g. other.slot ≢ g.slot) → IsOut after other
  others_out other out ne = record {
    entry = marked_other between got true other.slot (got_other other out) ∙ marked_other table given false other.slot ne ∙ out.entry;
    sized = out.sized;
  }

  -- where what is given is in the table
  given_entry : (g : Object) → given ≡ Some g → Stands after g.kind g.slot
  given_entry g is =
      let out = (given_is g is).0 in
      marked_other between got true g.slot (got_other g out)
      ∙ ap (λ (x : Option Object). slice_get (marked table x false) g.slot) is ∙ marked_same table g false _ out.entry

  -- it is out no longer
  pub given_gone : IfSome given (λ g. IsOut after g → ⊥)
  given_gone = some_by (λ g. IsOut after g → ⊥) given (λ g is out. out_apart after g g.kind g.slot out (given_entry g is) refl)

  -- and is on the shelf; other shelves are as they were
  pub stands_after : AreStanding after new
  stands_after k o on = by (cases_eq k shelf) where
    off : IfSome got (λ h. o.slot ≢ h.slot)
    off = some_by (λ h. o.slot ≢ h.slot) got (λ h is same.
        away_of (on_shelf new k) o h.slot on (in_some (λ x. IsOff new x.slot) got h is e.off k) (sym same))

    by : (k ≡ shelf) ⊎ (k ≢ shelf) → Stands after k o.slot
    by (inl same) =
        let is : given ≡ Some o = sym e.now ∙ ap (on_shelf new) (sym same) ∙ on in
        given_entry o is ∙ ap (λ (n : ℕ). Some (record { kind = n; is_out = false })) ((given_is o is).1 ∙ sym same)
    by (inr ne) = marked_other between got true o.slot off ∙ still k o.slot (standing k o (sym (e.others k ne) ∙ on))

  -- and that many are out
  pub counted_after : (k : ℕ) → out_of_kind after k + one_of given shelf k ≡ out_of_kind table k + one_of got shelf k
  counted_after k = omega (arith, given_counted table given shelf k givable, got_counted between got shelf k got_between)

-- the table and the shelves then, with what the call gets
pub record IsSwapped (table : List Entry) (shelf : ℕ) (given got : Option Object) (now : List Entry) (new : List (Option Object)) : Type 0 where
  pub stands : AreStanding now new
  pub out : IfSome got (λ h. IsOut now h × (h.kind ≡ shelf))
  pub apart : IfSome got (λ h. (other : Object) → IsOut table other → other.slot ≢ h.slot)
  pub counted : (k : ℕ) → out_of_kind now k + one_of given shelf k ≡ out_of_kind table k + one_of got shelf k
  pub gone : IfSome given (λ g. IsOut now g → ⊥)
  pub others : (other : Object) → IsOut table other → IfSome given (λ g. other.slot ≢ g.slot) → IsOut now other

pub swapped : (table now : List Entry) {shelf : ℕ} {given got : Option Object} {old new : List (Option Object)}
    → IsExchanged shelf given got old new → AreStanding table old
    → IsGivable table shelf given → now ≡ marked (marked table given false) got true → IsSwapped table shelf given got now new
swapped table now {shelf} {given} {got} {old} {new} e standing givable is = subst (λ (t : List Entry). IsSwapped table shelf given got t new) (sym is) (record {
  stands = stands_after table e standing givable;
  out = got_out table e standing givable;
  apart = got_apart table e standing givable;
  counted = counted_after table e standing givable;
  gone = given_gone table e standing givable;
  others = others_out table e standing givable;
})
