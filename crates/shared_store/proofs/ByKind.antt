-- What is said of an object of any kind, by what is said of those of its kind.
use Rattle.std.proofs.Common.{◌≡◌, ◌≢◌, ◌⊎◌, inl, inr, ℕ, ◌+◌, ◌==◌, if◌then◌else◌, Bool, true, false, List, [], ◌∷◌, length, Option, Some, None, refl, ap, ◌∙◌, subst, sym, rules, arith}
use Rattle.std.proofs.lemmas.Bool.{cases_eq}
use Rattle.std.proofs.lemmas.Bool.Decides.{nat_tests}
use Rattle.std.specs.Prelude.{IfNone}
use Rattle.std.specs.Option.{IfSome, IsSomeAnd, MatchOption}
use Rattle.owners_table.specs.Owning.{Holds, without}
use Rattle.ebpf_machine.specs.Store.{one_of, reply_to_swap}
use Rattle.ebpf_object.specs.Object.{kind_of, number_in, number_of, slot_of}
use Rattle.ebpf_object.specs.declared.object.Object.{Object}
use Rattle.ebpf_object.proofs.Numbers.{same_kind, same_slot}
use Rattle.ebpf_owned.specs.Claims.{IsClaimed, Once}
use Rattle.ebpf_owned.specs.Exchanges.{HasPassed, one_if}
use Rattle.ebpf_owned.proofs.Holding.{held_after, held_before, length-without}
use Rattle.ebpf_owned.proofs.Passing.{is_held, is_gone, is_still_held, slots}
use Rattle.shared_store.specs.Going.{GoesBy, counts_on}
use Rattle.shared_store.proofs.Keeping.{one_slot}
use Rattle.shared_store.specs.Tools.{AreStocks, HaveAnswered, HoldNothing, ToolsView, held_at}

pub claimed_at : {X : Type 0} (slot : X → ℕ) (word kind : ℕ) (got : Option X) (old new : ToolsView) (held held' : List (ℕ × ℕ))
    → IfSome got (λ x. IsClaimed (slot x) word held held') → held_at old kind ≡ held → held_at new kind ≡ held'
    → IfSome got (λ x. IsClaimed (slot x) word (held_at old kind) (held_at new kind))
claimed_at slot word kind got old new held held' claimed before after =
    subst (λ h. IfSome got (λ x. IsClaimed (slot x) word h (held_at new kind))) (sym before)
    (subst (λ h. IfSome got (λ x. IsClaimed (slot x) word held h)) (sym after) claimed)

-- what is said of what is in an option is said of what it is mapped to
pub mapped : {X Y : Type 0} (P : X → Type 0) (Q : Y → Type 0) (R : X → Y → Type 0) (from : Option X) (to : Option Y)
    → MatchOption from (to ≡ None) (λ x. IsSomeAnd to (R x)) → ((x : X) (y : Y) → R x y → P x → Q y) → IfSome from P → IfSome to Q
mapped P Q R None None cases by says = tt
mapped P Q R None (Some y) cases by says = absurd (is_not cases) where
  is_not : Some y ≡ None → ⊥
  is_not e = search (rules, e)
mapped P Q R (Some x) None cases by says = tt
mapped P Q R (Some x) (Some y) cases by says = by x y cases says

pub none_then : {X : Type 0} (P : Type 0) (o : Option X) → P → IfNone o P
none_then P None is = is
none_then P (Some x) is = tt

-- each slot of a kind is held once at most
pub once_at : (t : ToolsView) → AreStocks t → (kind : ℕ) → Once (held_at t kind)
once_at t are kind = by (kind == 0) where
  none : Once []
  none slot = omega arith

  last : (b : Bool) → Once (if b then t.blocks.seat.held else [])
  last true = are.blocks.once
  last false = none

  next : (b : Bool) → Once (if b then t.records.seat.held else if kind == 2 then t.blocks.seat.held else [])
  next true = are.records.once
  next false = last (kind == 2)

  by : (b : Bool) → Once (if b then t.cells.seat.held else if kind == 1 then t.records.seat.held else if kind == 2 then t.blocks.seat.held else [])
  by true = are.cells.once
  by false = next (kind == 1)

-- ---- what is held of one kind has changed

abbrev Out : ToolsView → Object → Type 0
Out t o = Holds (slot_of o) (held_at t (kind_of o))

module _ (old new : ToolsView) (kind : ℕ) (stay : (other : ℕ) → other ≢ kind → held_at new other ≡ held_at old other) where
  -- an object stays out, if one of this kind does
  still : (o : Object) → Out old o → (kind_of o ≡ kind → Holds (slot_of o) (held_at old kind) → Holds (slot_of o) (held_at new kind)) → Out new o
  still o out here = by (cases_eq (kind_of o) kind) where
    by : (kind_of o ≡ kind) ⊎ (kind_of o ≢ kind) → Out new o
    by (inl same) = subst (λ (k : ℕ). Holds (slot_of o) (held_at new k)) (sym same) (here same (subst (λ (k : ℕ). Holds (slot_of o) (held_at old k)) same out))
    by (inr apart) = subst (Holds (slot_of o)) (sym (stay (kind_of o) apart)) out

  -- how many are held
  counted : (given got : ℕ) → length (held_at new kind) + given ≡ length (held_at old kind) + got → (k : ℕ)
      → length (held_at new k) + (if k == kind then given else 0) ≡ length (held_at old k) + (if k == kind then got else 0)
  counted given got sum k = by (cases_eq k kind) where
    by : (k ≡ kind) ⊎ (k ≢ kind) → length (held_at new k) + (if k == kind then given else 0) ≡ length (held_at old k) + (if k == kind then got else 0)
    by (inl same) =
        let is = ap (λ (k : ℕ). length (held_at new k)) same in let was = ap (λ (k : ℕ). length (held_at old k)) same in grind (arith, nat_tests, same, is, was, sum)
    by (inr apart) = let same = ap length (stay k apart) in grind (arith, nat_tests, apart, same)

  -- an object was taken
  pub taken_counted : (slot word : ℕ) → IsClaimed slot word (held_at old kind) (held_at new kind) → (k : ℕ)
      → length (held_at new k) + (if k == kind then 0 else 0) ≡ length (held_at old k) + (if k == kind then 1 else 0)
  taken_counted slot word claimed k = counted 0 1 (omega (arith, ap length claimed.0)) k

  -- an object went back
  pub returned_counted : (slot : ℕ) → Holds slot (held_at old kind) → held_at new kind ≡ without slot (held_at old kind) → (k : ℕ)
      → length (held_at new k) + (if k == kind then 1 else 0) ≡ length (held_at old k) + (if k == kind then 0 else 0)
  returned_counted slot has gave k = counted 1 0 (omega (arith, ap length gave, length-without slot (held_at old kind) has)) k

  -- an object, or nothing, was exchanged for what was on the shelf
  pub swapped_counted : (given got : Option Object) (word : ℕ) → HasPassed (slots given) (slots got) word (held_at old kind) (held_at new kind) → (k : ℕ)
      → length (held_at new k) + (if k == kind then one_if given else 0) ≡ length (held_at old k) + (if k == kind then one_if got else 0)
  swapped_counted given got word p k = counted (one_if given) (one_if got) (omega (arith, p.balance, one_slot slot_of [] given, one_slot slot_of [] got)) k

  -- ---- an object went back

  module _ (o : Object) (of_kind : kind_of o ≡ kind) (has : Holds (slot_of o) (held_at old kind)) (once : Once (held_at old kind))
      (gave : held_at new kind ≡ without (slot_of o) (held_at old kind)) where
    pub given_counted : (k : ℕ) → length (held_at new k) + (if k == kind then 1 else 0) ≡ length (held_at old k)
    given_counted k =
        let e = returned_counted (slot_of o) has gave k in grind (arith, nat_tests, e)

    pub given_back : (other : Object) → Out new other → Out old other × (number_of other ≢ number_of o)
    given_back other out = by (cases_eq (kind_of other) kind) where
      by : (kind_of other ≡ kind) ⊎ (kind_of other ≢ kind) → Out old other × (number_of other ≢ number_of o)
      by (inl same) =
          let was = held_before (slot_of o) (slot_of o) (slot_of other) (held_at old kind) (held_at new kind) refl gave has once
          (subst (λ (k : ℕ). Holds (slot_of other) (held_at new k)) same out) in
          (subst (λ (k : ℕ). Holds (slot_of other) (held_at old k)) (sym same) was.0, λ e. was.1 (same_slot other o e))
      by (inr apart) = (subst (Holds (slot_of other)) (stay (kind_of other) apart) out, λ e. apart (same_kind other o e ∙ of_kind))

    pub given_others : (other : Object) → Out old other → number_of other ≢ number_of o → Out new other
    given_others other out apart = still other out (λ same was.
        held_after (slot_of o) (slot_of o) (slot_of other) (held_at old kind) (held_at new kind) refl gave has was
        (λ slots. apart ((λ i. number_in ((same ∙ sym of_kind) i) (slots i)))))

  -- ---- an object, or nothing, was exchanged for what was on the shelf

  abbrev AreOut : Option Object → Type 0
  AreOut o = IfSome o (λ x. Out old x × (kind_of x ≡ kind))

  here : (o : Option Object) → AreOut o → IfSome o (λ x. Holds (slot_of x) (held_at old kind))
  here None out = tt
  here (Some x) out = subst (λ (k : ℕ). Holds (slot_of x) (held_at old k)) out.1 out.0

  module _ (given got : Option Object) (word : ℕ) (once : Once (held_at old kind)) (out : AreOut given) (of_kind : IfSome got (λ h. kind_of h ≡ kind))
      (p : HasPassed (slots given) (slots got) word (held_at old kind) (held_at new kind)) where
    pub got_out : IfSome got (λ h. Out new h × (kind_of h ≡ kind))
    got_out = by got (is_held (slots given) got kind word (held_at old kind) (held_at new kind) p of_kind) where
      by : (o : Option Object) → IfSome o (λ h. Holds (slot_of h) (held_at new kind) × (kind_of h ≡ kind)) → IfSome o (λ h. Out new h × (kind_of h ≡ kind))
      by None h = tt
      by (Some x) h = (subst (λ (k : ℕ). Holds (slot_of x) (held_at new k)) (sym h.1) h.0, h.1)

    pub got_apart : IfSome got (λ h. (other : Object) → Out old other → number_of other ≢ number_of h)
    got_apart = by got of_kind p.fresh where
      by : (o : Option Object) → IfSome o (λ h. kind_of h ≡ kind) → IfSome (slots o) (λ slot. Holds slot (held_at old kind) → ⊥)
          → IfSome o (λ h. (other : Object) → Out old other → number_of other ≢ number_of h)
      by None k fresh = tt
      by (Some h) k fresh = λ other was same.
          fresh
          (subst (λ (k : ℕ). Holds (slot_of h) (held_at old k)) (same_kind other h same ∙ k) (subst (λ s. Holds s (held_at old (kind_of other))) (same_slot other h same) was))

    pub given_gone : IfSome given (λ g. Out new g → ⊥)
    given_gone = by given out (is_gone given (slots got) word (held_at old kind) (held_at new kind) (here given out) once p) where
      by : (o : Option Object) → AreOut o → IfSome o (λ g. Holds (slot_of g) (held_at new kind) → ⊥) → IfSome o (λ g. Out new g → ⊥)
      by None out gone = tt
      by (Some g) out gone = λ now. gone (subst (λ (k : ℕ). Holds (slot_of g) (held_at new k)) out.1 now)

    pub exchanged_others : (other : Object) → Out old other → IfSome given (λ g. number_of other ≢ number_of g) → Out new other
    exchanged_others other was apart = still other was (λ same held.
        is_still_held given (slots got) word other (held_at old kind) (held_at new kind) (here given out) p held (off same given out apart)) where
          off : kind_of other ≡ kind → (o : Option Object) → AreOut o → IfSome o (λ g. number_of other ≢ number_of g) → IfSome o (λ g. slot_of other ≢ slot_of g)
          off same None out apart = tt
          off same (Some g) out apart = λ slots. apart ((λ i. number_in ((same ∙ sym out.1) i) (slots i)))

    pub exchanged_counted : (k : ℕ) → length (held_at new k) + one_of given kind k ≡ length (held_at old k) + one_of got kind k
    exchanged_counted k =
        omega (arith, swapped_counted given got word p k, one_is given, one_is got) where
          one_is : (o : Option Object) → one_of o kind k ≡ (if k == kind then one_if o else 0)
          one_is None = grind (arith, nat_tests)
          one_is (Some x) = refl

-- the store went by the reply to a call of swap
pub swapped_goes : (old new : ToolsView) (got : Option Object) → HaveAnswered old new 0 0 (one_if got) → GoesBy old (reply_to_swap got ∷ []) new
swapped_goes old new None went = went
swapped_goes old new (Some h) went = went

-- ---- tools that hold nothing

none_long : {X : Type 0} (xs : List X) → length xs ≡ 0 → xs ≡ []
none_long [] is = refl
none_long (x ∷ xs) is = absurd (omega (arith, is))

-- tools that hold as much as tools that hold nothing
pub hold_nothing_still : (old new : ToolsView) → HoldNothing old → ((kind : ℕ) → length (held_at new kind) ≡ length (held_at old kind)) → HoldNothing new
hold_nothing_still old new none same = record {
  cells = none_long new.cells.seat.held (same 0 ∙ ap length none.cells);
  records = none_long new.records.seat.held (same 1 ∙ ap length none.records);
  blocks = none_long new.blocks.seat.held (same 2 ∙ ap length none.blocks);
}

-- one thing after another was answered
pub answered_then : (s t u : ToolsView) (a b d x y z : ℕ) → HaveAnswered s t a b d → HaveAnswered t u x y z → HaveAnswered s u (a + x) (b + y) (d + z)
answered_then s t u a b d x y z first second = record {
  of = λ c are. second.of c (first.of c are);
  granted_are = omega (arith, first.granted_are, second.granted_are);
  refused_are = counts_on _ _ _ _ _ _ first.refused_are second.refused_are refl;
  fetched_are = omega (arith, first.fetched_are, second.fetched_are);
}
