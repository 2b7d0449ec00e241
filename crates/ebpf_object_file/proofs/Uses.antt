-- What each slot loads after one more relocation.
use Rattle.std.proofs.Common.{◌≡◌, ◌<◌, ◌≤◌, ◌+◌, ◌/◌, ℕ, Bool, true, false, ◌&&◌, ◌||◌, List, length, Option, Some, None, is_some, slice_index_or, slice_set, refl, sym, ap, subst, ◌∙◌, arith, inl, inr, if◌then◌else◌}
use Rattle.std.proofs.lemmas.Bool.{and_from, cases_lt}
use Rattle.std.proofs.lemmas.Bool.Decides.{eqb_tells, nat_tests}
use Rattle.std.proofs.lemmas.List.{length-set, get_or-set_same, get_or-set_other}
use Rattle.ebpf_object_file.specs.declared.relocation.Relocation.{Relocation}
use Rattle.ebpf_object_file.specs.declared.outside.Target.{Target}
use Rattle.ebpf_object_file.specs.declared.functions.Functions.{Functions}
use Rattle.ebpf_object_file.specs.declared.function.Function.{Function}
use Rattle.ebpf_object_file.specs.declared.data_use.DataUse.{DataUse}
use Rattle.ebpf_object_file.specs.declared.object_fault.ObjectFault.{ObjectFault}
use Rattle.ebpf_object_file.specs.Relocation.{relocation_of, reaches}
use Rattle.ebpf_object_file.specs.Data.{any_below, slot_of, is_wide, first_of, data_fault, use_of}
use Rattle.ebpf_object_file.specs.DataFunction.{is_for, is_refused, IsRefusal}
use Rattle.ebpf_object_file.specs.Reading.{IsPutFault, ArePut}
use Rattle.ebpf_object_file.proofs.Objects.{both, eq, eq_test}
use Rattle.ebpf_object_file.proofs.Slots.{isnt}
use Rattle.ebpf_object_file.proofs.Walks.{none_more}
use Rattle.ebpf_object_file.proofs.Below.{any_true, any_false}

-- where the relocation of a wide immediate is
pub wide_from : (f : Function) (r : Relocation) → is_wide f r ≡ true → f.place.from ≤ r.offset
wide_from f r e = grind (arith, nat_tests)

pub wide_inside : (f : Function) (r : Relocation) → is_wide f r ≡ true → slot_of f.place r + 1 < length f.code.now / 8
wide_inside f r e = grind (arith, nat_tests)

none_later : (x y : Option Target) → first_of x y ≡ None → y ≡ None
none_later None y e = e
none_later (Some t) y e = absurd (cc)

pub none_chosen : (b : Bool) (x : Option Target) (t : Target) → (if b then x else Some t) ≡ None → (b ≡ true) × (x ≡ None)
none_chosen true x t e = (refl, e)
none_chosen false x t e = absurd (cc)

-- data that is loaded is so by a wide immediate
pub fine_wide : (file symbols : List ℕ) (f : Function) (r : Relocation) → data_fault file symbols f r ≡ None → is_wide f r ≡ true
fine_wide file symbols f r e = (none_chosen _ _ _ (none_later _ _ (none_chosen _ _ _ e).1)).0

some_is : (o : Option DataUse) → is_some o ≡ true → (u : DataUse) × (o ≡ Some u)
some_is None e = absurd (cc)
some_is (Some u) e = (u, refl)

apart : (o : Option DataUse) (u : DataUse) → o ≡ None → o ≡ Some u → ⊥
apart o u none some = absurd (cc)

not_refused : (a b c : Bool) → b ≡ false → c ≡ false → (a && (b || c)) ≡ false
not_refused true b c e f = rw e f
not_refused false b c e f = refl

not_reached : (a b : Bool) → a ≡ false → (a && b) ≡ false
not_reached a b e = rw e refl

refused : (a c : Bool) (x : Option Target) → a ≡ true → (x ≡ None → c ≡ true) → (a && (is_some x || c)) ≡ true
refused true c None e h = h refl
refused true c (Some t) e h = refl
refused false c x e h = absurd (cc)

-- before the first relocation
pub none_put : (file symbols : List ℕ) (f : Function) (table : List ℕ) (uses : List (Option DataUse)) → length uses ≡ length f.code.now / 8
    → ((slot : ℕ) → slice_index_or uses slot None ≡ None) → ArePut file symbols f table 0 uses
none_put file symbols f table uses slots empty = record {
  slots = slots;
  taken = λ k lt. absurd (omega (arith, lt));
  each = λ k lt t. absurd (omega (arith, lt));
  only = λ slot u some. absurd (apart (slice_index_or uses slot None) u (empty slot) some);
}

-- a relocation that doesn't reach the function
pub put_passed : (file symbols : List ℕ) (f : Function) (table : List ℕ) (n : ℕ) (uses : List (Option DataUse))
    → reaches f.place.from f.place.size (relocation_of table n) ≡ false → ArePut file symbols f table n uses → ArePut file symbols f table (n + 1) uses
put_passed file symbols f table n uses away h = record {
  slots = h.slots;
  taken = none_more (is_refused file symbols f table) n h.taken (not_reached _ _ away);
  each = λ k lt t. elim (cases_lt k n) [
    | inl below ↦ h.each k below t
    | inr above ↦ let e : k ≡ n = omega (arith, lt, above) in
        absurd (reached_not _ (ap (λ (x : ℕ). reaches f.place.from f.place.size (relocation_of table x)) (sym e) ∙ t) away)
  ];
  only = λ slot u some. let from = h.only slot u some in
      record { entry = from.entry; before = let lt : from.entry < n = from.before in omega (arith, lt); reaches = from.reaches; slot_is = from.slot_is };
} where
  reached_not : (b : Bool) → b ≡ true → b ≡ false → ⊥
  reached_not b t g = absurd (cc)

-- no relocation before has the slot that is free
slot_free : (file symbols : List ℕ) (f : Function) (table : List ℕ) (n slot : ℕ) (uses : List (Option DataUse)) → ArePut file symbols f table n uses
    → slice_index_or uses slot None ≡ None → any_below (is_for f.place table slot) n ≡ false
slot_free file symbols f table n slot uses h free = any_false (is_for f.place table slot) n (λ k lt. isnt _ (λ t.
    let parts = both _ _ t in
    apart (slice_index_or uses slot None) (use_of file symbols f (relocation_of table k)) free
    (subst (λ (x : ℕ). slice_index_or uses x None ≡ Some (use_of file symbols f (relocation_of table k))) (eq _ _ parts.1) (h.each k lt parts.0))))

-- a relocation whose use is put
pub put_more : (file symbols : List ℕ) (f : Function) (table : List ℕ) (n : ℕ) (r : Relocation) (old new : List (Option DataUse))
    → r ≡ relocation_of table n → reaches f.place.from f.place.size r ≡ true → data_fault file symbols f r ≡ None → slot_of f.place r < length old
    → slice_index_or old (slot_of f.place r) None ≡ None → new ≡ slice_set old (slot_of f.place r) (Some (use_of file symbols f r))
    → ArePut file symbols f table n old → ArePut file symbols f table (n + 1) new
put_more file symbols f table n r old new same reached fine inside free set h = record {
  slots = ap length set ∙ length-set old (slot_of f.place r) (Some (use_of file symbols f r)) ∙ h.slots;
  taken = none_more (is_refused file symbols f table) n h.taken (subst (λ (x : Relocation). test x ≡ false) same
      (not_refused _ _ _ (ap (λ (x : Option Target). is_some x) fine) (slot_free file symbols f table n (slot_of f.place r) old h free)));
  each = λ k lt t. elim (cases_lt k n) [
    | inl below ↦
        let before = h.each k below t in
        ap (λ (x : List (Option DataUse)). slice_index_or x (slot_of f.place (relocation_of table k)) None) set
        ∙ get_or-set_other old (slot_of f.place r) (slot_of f.place (relocation_of table k)) (Some (use_of file symbols f r)) None
        (λ e. apart _ _ free (ap (λ (x : ℕ). slice_index_or old x None) (sym e) ∙ before)) ∙ before
    | inr above ↦ let e : k ≡ n = omega (arith, lt, above) in
        let is : r ≡ relocation_of table k = same ∙ ap (relocation_of table) (sym e) in
        subst (λ (x : Relocation). slice_index_or new (slot_of f.place x) None ≡ Some (use_of file symbols f x)) is
        (ap (λ (x : List (Option DataUse)). slice_index_or x (slot_of f.place r) None) set
        ∙ get_or-set_same old (slot_of f.place r) (Some (use_of file symbols f r)) None inside)
  ];
  only = λ slot u some. elim (eqb_tells slot (slot_of f.place r)) [
    | inl e ↦ record {
      entry = n;
      before = omega arith;
      reaches = subst (λ (x : Relocation). reaches f.place.from f.place.size x ≡ true) same reached;
      slot_is = subst (λ (x : Relocation). slot_of f.place x ≡ slot) same (sym e.1);
    }
    | inr e ↦
        let from = h.only slot u (sym (get_or-set_other old (slot_of f.place r) slot (Some (use_of file symbols f r)) None e.1)
        ∙ ap (λ (x : List (Option DataUse)). slice_index_or x slot None) (sym set) ∙ some) in
        record { entry = from.entry; before = let lt : from.entry < n = from.before in omega (arith, lt); reaches = from.reaches; slot_is = from.slot_is }
  ];
} where
  test : Relocation → Bool
  test x = reaches f.place.from f.place.size x && (is_some (data_fault file symbols f x) || any_below (is_for f.place table (slot_of f.place x)) n)

-- a relocation that is refused is the first
pub put_refused : (f : Functions) (g : Function) (table : List ℕ) (n : ℕ) (r : Relocation) (uses : List (Option DataUse)) (e : ObjectFault)
    → n < length table / 16 → r ≡ relocation_of table n → reaches g.place.from g.place.size r ≡ true → IsPutFault f g r uses e
    → ArePut f.file.now f.symbols.now g table n uses → IsRefusal f g table e
put_refused f g table n r uses e inside same reached why h =
    let found : IsPutFault f g (relocation_of table n) uses e = subst (λ (x : Relocation). IsPutFault f g x uses e) same why in
    record {
      entry = n;
      first = record {
        inside = inside;
        here = refused _ _ _ (subst (λ (x : Relocation). reaches g.place.from g.place.size x ≡ true) same reached) (λ none.
            let some = some_is _ (found.taken none) in
            let from = h.only (slot_of g.place (relocation_of table n)) some.0 some.1 in
            any_true (is_for g.place table (slot_of g.place (relocation_of table n))) n from.entry from.before
            (and_from _ _ from.reaches (eq_test _ _ from.slot_is)));
        before = h.taken;
      };
      by = found.by;
    }

pub none_at : (uses : List (Option DataUse)) (slot : ℕ) → is_some (slice_index_or uses slot None) ≡ false → slice_index_or uses slot None ≡ None
none_at uses slot e = none_is (slice_index_or uses slot None) e where
  none_is : (o : Option DataUse) → is_some o ≡ false → o ≡ None
  none_is None e = refl
  none_is (Some u) e = absurd (cc)
