-- The lines of slots: each line at the slot where it begins, then carried to the slots after it.
use Rattle.std.proofs.Common.{◌≡◌, ◌≢◌, ◌⊎◌, ℕ, ◌+◌, ◌-◌, ◌*◌, ◌/◌, ◌<◌, ◌≤◌, Bool, false, true, List, length, Option, Some, None, refl, sym, ap}
use Rattle.std.proofs.Common.{subst, ◌∙◌, arith, inl, inr}
use Rattle.std.specs.Prelude.{slice_index_or, slice_set, is_some}
use Rattle.std.proofs.lemmas.Bool.{cases_lt, and_from}
use Rattle.std.proofs.lemmas.Bool.Decides.{eqb_tells}
use Rattle.std.proofs.lemmas.List.{get_or-set_same, get_or-set_other, length-set}
use Rattle.ebpf_object_file.specs.declared.lines.Line.{Line}
use Rattle.ebpf_object_file.specs.Lines.{line_of, is_between, is_at, later, IsLatest, Latest, Holds}
use Rattle.ebpf_object_file.proofs.Objects.{both, eq, le, eq_test, le_test}
use Rattle.ebpf_object_file.proofs.Best.{latest_skip, latest_more}

-- where a line begins to hold
at_is : (from slot : ℕ) (l : Line) → is_at from slot l ≡ true → (from ≤ l.offset) × ((l.offset - from + 7) / 8 ≡ slot)
at_is from slot l e = let parts = both _ _ e in (le _ _ parts.0, eq _ _ parts.1)

at_here : (from slot : ℕ) (l : Line) → from ≤ l.offset → (l.offset - from + 7) / 8 ≡ slot → is_at from slot l ≡ true
at_here from slot l above here = and_from _ _ (le_test _ _ above) (eq_test _ _ here)

pub isnt : (b : Bool) → (b ≡ true → ⊥) → b ≡ false
isnt true h = absurd (h refl)
isnt false h = refl

pub is : (b : Bool) → b ≡ false → b ≡ true → ⊥
is true f t = absurd (cc)
is false f t = absurd (cc)

same_tests : (a b : Bool) → (a ≡ true → b ≡ true) → (b ≡ true → a ≡ true) → a ≡ b
same_tests true b h g = sym (h refl)
same_tests false true h g = g refl
same_tests false false h g = refl

between_is : (from at : ℕ) (l : Line) → is_between from at l ≡ true → (from ≤ l.offset) × (l.offset ≤ at)
between_is from at l e = let parts = both _ _ e in (le _ _ parts.0, le _ _ parts.1)

between_here : (from at : ℕ) (l : Line) → from ≤ l.offset → l.offset ≤ at → is_between from at l ≡ true
between_here from at l above below = and_from _ _ (le_test _ _ above) (le_test _ _ below)

-- a line that is put to its slot
pub gathered : (size : ℕ) (records : List ℕ) (from n slot : ℕ) (lines : List (Option Line)) (l : Line)
    → ((k : ℕ) → k < length lines → Latest (is_at from k) size records n (slice_index_or lines k None)) → slot < length lines
    → l ≡ line_of size records n → from ≤ l.offset → (l.offset - from + 7) / 8 ≡ slot
    → (k : ℕ) → k < length (slice_set lines slot (Some (later (slice_index_or lines slot None) l)))
    → Latest (is_at from k) size records (n + 1) (slice_index_or (slice_set lines slot (Some (later (slice_index_or lines slot None) l))) k None)
gathered size records from n slot lines l each room same above here k lt =
    let inside : k < length lines = subst (λ (x : ℕ). k < x) (length-set lines slot (Some (later (slice_index_or lines slot None) l))) lt in
    elim (eqb_tells k slot) [
      | inl e ↦
          let value : slice_index_or (slice_set lines slot (Some (later (slice_index_or lines slot None) l))) k None
          ≡ Some (later (slice_index_or lines slot None) l) =
          ap (λ (x : ℕ). slice_index_or (slice_set lines slot (Some (later (slice_index_or lines slot None) l))) x None) e.1
          ∙ get_or-set_same lines slot (Some (later (slice_index_or lines slot None) l)) None room in
          subst (λ (x : Option Line). Latest (is_at from k) size records (n + 1) x) (sym value)
          (latest_more (is_at from k) size records n (slice_index_or lines slot None) l
          (subst (λ (x : ℕ). Latest (is_at from k) size records n (slice_index_or lines x None)) e.1 (each k inside)) same
          (at_here from k l above (here ∙ sym e.1)))
      | inr e ↦
          let value : slice_index_or (slice_set lines slot (Some (later (slice_index_or lines slot None) l))) k None ≡ slice_index_or lines k None =
          get_or-set_other lines slot k (Some (later (slice_index_or lines slot None) l)) None e.1 in
          subst (λ (x : Option Line). Latest (is_at from k) size records (n + 1) x) (sym value)
          (latest_skip (is_at from k) size records n (slice_index_or lines k None) (each k inside)
          (subst (λ (x : Line). is_at from k x ≡ false) same (isnt _ (λ t. e.1 (sym (at_is from k l t).1 ∙ here)))))
    ]

-- a line that begins before the function, or after the last slot
pub passed_before : (size : ℕ) (records : List ℕ) (from n : ℕ) (lines : List (Option Line)) (l : Line)
    → ((k : ℕ) → k < length lines → Latest (is_at from k) size records n (slice_index_or lines k None)) → l ≡ line_of size records n → l.offset < from
    → (k : ℕ) → k < length lines → Latest (is_at from k) size records (n + 1) (slice_index_or lines k None)
passed_before size records from n lines l each same low k lt =
    latest_skip (is_at from k) size records n (slice_index_or lines k None) (each k lt)
    (subst (λ (x : Line). is_at from k x ≡ false) same (isnt _ (λ t. let above : from ≤ l.offset = (at_is from k l t).0 in absurd (omega (arith, above, low)))))

pub passed_after : (size : ℕ) (records : List ℕ) (from n : ℕ) (lines : List (Option Line)) (l : Line)
    → ((k : ℕ) → k < length lines → Latest (is_at from k) size records n (slice_index_or lines k None)) → l ≡ line_of size records n
    → length lines ≤ (l.offset - from + 7) / 8
    → (k : ℕ) → k < length lines → Latest (is_at from k) size records (n + 1) (slice_index_or lines k None)
passed_after size records from n lines l each same beyond k lt =
    latest_skip (is_at from k) size records n (slice_index_or lines k None) (each k lt)
    (subst (λ (x : Line). is_at from k x ≡ false) same
    (isnt _ (λ t. let here : (l.offset - from + 7) / 8 ≡ k = (at_is from k l t).1 in absurd (omega (arith, here, beyond, lt)))))

-- two tests that agree on the lines have the same latest line
latest_same : (test other : Line → Bool) (size : ℕ) (records : List ℕ) (n : ℕ) (best : Option Line)
    → ((k : ℕ) → k < n → test (line_of size records k) ≡ other (line_of size records k)) → Latest test size records n best → Latest other size records n best
latest_same test other size records n None agree h = λ k lt. sym (agree k lt) ∙ h k lt
latest_same test other size records n (Some l) agree h = record {
  number = h.number;
  inside = h.inside;
  is = h.is;
  here = subst (λ (x : Line). other x ≡ true) (sym h.is) (sym (agree h.number h.inside) ∙ subst (λ (x : Line). test x ≡ true) h.is h.here);
  last = λ k lt t. h.last k lt (agree k lt ∙ t);
  after = λ k lt beyond t. h.after k lt beyond (agree k lt ∙ t);
}

-- at the first slot the line holds that begins there
first_holds : (size : ℕ) (records : List ℕ) (from n : ℕ) (best : Option Line) → Latest (is_at from 0) size records n best
    → Holds size records from (from + 8 * 0) n best
first_holds size records from n best h =
    latest_same (is_at from 0) (is_between from (from + 8 * 0)) size records n best
    (λ k lt. same_tests _ _
    (λ t. let p = at_is from 0 (line_of size records k) t in let a : from ≤ (line_of size records k).offset = p.0 in
    let b : ((line_of size records k).offset - from + 7) / 8 ≡ 0 = p.1 in between_here from (from + 8 * 0) (line_of size records k) a (omega (arith, a, b)))
    (λ t. let p = between_is from (from + 8 * 0) (line_of size records k) t in let a : from ≤ (line_of size records k).offset = p.0 in
    let b : (line_of size records k).offset ≤ from + 8 * 0 = p.1 in at_here from 0 (line_of size records k) a (omega (arith, a, b)))) h

-- where no line begins at a slot, the one of the slot before it holds there
kept : (size : ℕ) (records : List ℕ) (from n m : ℕ) (best : Option Line) → Latest (is_at from (m + 1)) size records n None
    → Holds size records from (from + 8 * m) n best → Holds size records from (from + 8 * (m + 1)) n best
kept size records from n m best none h =
    latest_same (is_between from (from + 8 * m)) (is_between from (from + 8 * (m + 1))) size records n best
    (λ k lt. same_tests _ _
    (λ t. let p = between_is from (from + 8 * m) (line_of size records k) t in let a : from ≤ (line_of size records k).offset = p.0 in
    let b : (line_of size records k).offset ≤ from + 8 * m = p.1 in between_here from (from + 8 * (m + 1)) (line_of size records k) a (omega (arith, b)))
    (λ t. let p = between_is from (from + 8 * (m + 1)) (line_of size records k) t in let a : from ≤ (line_of size records k).offset = p.0 in
    let b : (line_of size records k).offset ≤ from + 8 * (m + 1) = p.1 in
    elim (cases_lt (from + 8 * m) (line_of size records k).offset) [
      | inl above ↦ absurd (is _ (none k lt) (at_here from (m + 1) (line_of size records k) a (omega (arith, a, b, above))))
      | inr below ↦ between_here from (from + 8 * m) (line_of size records k) a below
    ])) h

-- where one begins, it holds
begun : (size : ℕ) (records : List ℕ) (from n m : ℕ) (l : Line) → IsLatest (is_at from (m + 1)) size records n l
    → Holds size records from (from + 8 * (m + 1)) n (Some l)
begun size records from n m l h =
    let p = at_is from (m + 1) l h.here in
    let a : from ≤ l.offset = p.0 in
    let b : (l.offset - from + 7) / 8 ≡ m + 1 = p.1 in
    let low : (k : ℕ) → is_between from (from + 8 * (m + 1)) (line_of size records k) ≡ true → (is_at from (m + 1) (line_of size records k) ≡ true)
    ⊎ ((line_of size records k).offset < l.offset) =
    λ k t. let q = between_is from (from + 8 * (m + 1)) (line_of size records k) t in let c : from ≤ (line_of size records k).offset = q.0 in
    let d : (line_of size records k).offset ≤ from + 8 * (m + 1) = q.1 in
    elim (cases_lt (from + 8 * m) (line_of size records k).offset) [
      | inl above ↦ inl (at_here from (m + 1) (line_of size records k) c (omega (arith, c, d, above)))
      | inr below ↦ inr (omega (arith, a, b, below))
    ] in
    record {
      number = h.number;
      inside = h.inside;
      is = h.is;
      here = between_here from (from + 8 * (m + 1)) l a (omega (arith, a, b));
      last = λ k lt t. elim (low k t) [
        | inl x ↦ h.last k lt x
        | inr x ↦ omega (arith, x)
      ];
      after = λ k lt beyond t. elim (low k t) [
        | inl x ↦ h.after k lt beyond x
        | inr x ↦ x
      ];
    }

-- below a slot each place has the line that holds there, and from it on the line that begins there
pub record AreCarried (size : ℕ) (records : List ℕ) (from slot : ℕ) (lines : List (Option Line)) : Type 0 where
  pub below : (k : ℕ) → k < length lines → k < slot → Holds size records from (from + 8 * k) (length records / size) (slice_index_or lines k None)
  pub above : (k : ℕ) → k < length lines → slot ≤ k → Latest (is_at from k) size records (length records / size) (slice_index_or lines k None)

pub carried_first : (size : ℕ) (records : List ℕ) (from : ℕ) (lines : List (Option Line))
    → ((k : ℕ) → k < length lines → Latest (is_at from k) size records (length records / size) (slice_index_or lines k None))
    → AreCarried size records from 1 lines
carried_first size records from lines each = record {
  below = λ k lt low. let e : k ≡ 0 = omega (arith, low) in
      subst (λ (x : ℕ). Holds size records from (from + 8 * x) (length records / size) (slice_index_or lines x None)) (sym e)
      (first_holds size records from (length records / size) (slice_index_or lines 0 None) (each 0 (omega (arith, lt, e))));
  above = λ k lt high. each k lt;
}

-- the slot after them has none of its own, and takes that of the slot before it
pub carried_kept : (size : ℕ) (records : List ℕ) (from slot : ℕ) (lines : List (Option Line)) → 0 < slot → slot < length lines
    → AreCarried size records from slot lines → slice_index_or lines slot None ≡ None
    → AreCarried size records from (slot + 1) (slice_set lines slot (slice_index_or lines (slot - 1) None))
carried_kept size records from slot lines some room h none = record {
  below = λ k lt low. elim (cases_lt k slot) [
    | inl under ↦ let other : k ≢ slot = λ e. omega (arith, under, e) in
        subst (λ (x : Option Line). Holds size records from (from + 8 * k) (length records / size) x) (sym (get_or-set_other lines slot k value None other))
        (h.below k (inside k lt) under)
    | inr at ↦ let e : k ≡ slot = omega (arith, at, low) in
        subst (λ (x : ℕ). Holds size records from (from + 8 * x) (length records / size) (slice_index_or (slice_set lines slot value) x None)) (sym e)
        (subst (λ (x : Option Line). Holds size records from (from + 8 * slot) (length records / size) x) (sym (get_or-set_same lines slot value None room))
        here)
  ];
  above = λ k lt high. let other : k ≢ slot = λ e. omega (arith, high, e) in
      subst (λ (x : Option Line). Latest (is_at from k) size records (length records / size) x) (sym (get_or-set_other lines slot k value None other))
      (h.above k (inside k lt) (omega (arith, high)));
} where
  value : Option Line
  value = slice_index_or lines (slot - 1) None

  inside : (k : ℕ) → k < length (slice_set lines slot value) → k < length lines
  inside k lt = subst (λ (x : ℕ). k < x) (length-set lines slot value) lt

  next : slot - 1 + 1 ≡ slot
  next = omega (arith, some)

  here : Holds size records from (from + 8 * slot) (length records / size) value
  here = subst (λ (x : ℕ). Holds size records from (from + 8 * x) (length records / size) value) next
      (kept size records from (length records / size) (slot - 1) value
      (subst (λ (x : ℕ). Latest (is_at from x) size records (length records / size) None) (sym next)
      (subst (λ (x : Option Line). Latest (is_at from slot) size records (length records / size) x) none (h.above slot room (omega arith))))
      (h.below (slot - 1) (omega (arith, room)) (omega (arith, some))))

-- the slot after them has one of its own
holds_begun : (size : ℕ) (records : List ℕ) (from slot : ℕ) (best : Option Line) → 0 < slot → (best ≡ None → ⊥)
    → Latest (is_at from slot) size records (length records / size) best → Holds size records from (from + 8 * slot) (length records / size) best
holds_begun size records from slot None some found h = absurd (found refl)
holds_begun size records from slot (Some l) some found h =
    let next : slot - 1 + 1 ≡ slot = omega (arith, some) in
    subst (λ (x : ℕ). Holds size records from (from + 8 * x) (length records / size) (Some l)) next
    (begun size records from (length records / size) (slot - 1) l
    (subst (λ (x : ℕ). IsLatest (is_at from x) size records (length records / size) l) (sym next) h))

pub carried_begun : (size : ℕ) (records : List ℕ) (from slot : ℕ) (lines : List (Option Line)) → 0 < slot
    → AreCarried size records from slot lines → (slice_index_or lines slot None ≡ None → ⊥) → AreCarried size records from (slot + 1) lines
carried_begun size records from slot lines some h found = record {
  below = λ k lt low. elim (cases_lt k slot) [
    | inl under ↦ h.below k lt under
    | inr at ↦ let e : k ≡ slot = omega (arith, at, low) in
        subst (λ (x : ℕ). Holds size records from (from + 8 * x) (length records / size) (slice_index_or lines x None)) (sym e)
        (holds_begun size records from slot (slice_index_or lines slot None) some found (h.above slot (subst (λ (x : ℕ). x < length lines) e lt) (omega arith)))
  ];
  above = λ k lt high. h.above k lt (omega (arith, high));
}

-- the test of a place
pub is_empty : (o : Option Line) → is_some o ≡ false → o ≡ None
is_empty None e = refl
is_empty (Some l) e = absurd (cc)

pub isnt_empty : (o : Option Line) → is_some o ≡ true → o ≡ None → ⊥
isnt_empty o t e = is (is_some o) (ap (λ (x : Option Line). is_some x) e) t
