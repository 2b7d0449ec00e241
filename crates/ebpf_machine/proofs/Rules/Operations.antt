-- What an accepted operation computes is what its rule says.
use Rattle.std.proofs.Common.{◌≡◌, ℕ, ◌<◌, ◌^◌, ℤ, ◌+ℤ◌, ◌≤ℤ◌, Bool, true, false, cond, eqb, not, List, Option, Some, None, Result, Ok, Err, refl}
use Rattle.std.proofs.Common.{sym, ap, ◌∙◌, subst, arith}
use Rattle.std.specs.Prelude.{nat_lt, ◌||◌, unwrap_or}
use Rattle.std.proofs.lemmas.Bool.Decides.{nat_tests}
use Rattle.std.proofs.lemmas.Int.{ints}
use Rattle.ebpf_insn.specs.Arithmetic.{signed_of}
use Rattle.ebpf_range.specs.declared.range.Range.{Range}
use Rattle.ebpf_range.specs.Interval.{IsWithin, low}
use Rattle.ebpf_state.specs.declared.value.Abs.{Abs}
use Rattle.ebpf_state.specs.declared.value.Abs.TheVariants.{Unset, Num, Stk, Ctx, Ob, May}
use Rattle.ebpf_state.specs.Abstract.{is_unset, is_pointer, is_may}
use Rattle.ebpf_verify.specs.Pointers.{signed_ends, moved_end, with_end, with_ends, moved_by}
use Rattle.ebpf_machine.specs.declared.value.Value.{Value}
use Rattle.ebpf_machine.specs.declared.value.Value.TheVariants.{Number, Pointer}
use Rattle.ebpf_machine.specs.declared.value.Base.TheVariants.{Stack, Context, Object}
use Rattle.ebpf_machine.specs.Values.{Trap, PointerMisuse}
use Rattle.ebpf_machine.specs.Concretization.{IsOf}
use Rattle.ebpf_machine.specs.Sound.{FitsValue}
use Rattle.ebpf_verify.proofs.Bounded.{IsBoundedValue}
use Rattle.ebpf_verify.proofs.Pointers.{near_end, near_fits, between_near}

-- the first test of a list fails where no code is given
pub none_first : {C : Type 0} (t : Bool) (c : C) (rest : Option C) → cond t (Some c) rest ≡ None → (t ≡ false) × (rest ≡ None)
none_first true c rest e = absurd (cc)
none_first false c rest e = (refl, e)

-- a choice of two fails where both do
pub neither : (a b : Bool) → (a || b) ≡ false → (a ≡ false) × (b ≡ false)
neither false false e = (refl, refl)
neither false true e = absurd (cc)
neither true b e = absurd (cc)

-- a value that is set
pub set_value : (calls : List ℕ) (a : Abs) (x : Option (Value ℕ)) → is_unset a ≡ false → IsOf calls a x → (v : Value ℕ) × (x ≡ Some v) × IsOf calls a (Some v)
set_value calls Unset x e h = absurd (cc)
set_value calls a (Some v) e h = (v, refl, h)
set_value calls (Num a) None e h = absurd h
set_value calls (Stk k) None e h = absurd h
set_value calls (Ctx a b) None e h = absurd h
set_value calls (Ob c a b) None e h = absurd h
set_value calls (May c) None e h = absurd h

-- a value that is known to be a number
pub record IsNumberOf (known : Abs) (x : Option (Value ℕ)) : Type 0 where
  pub n : ℕ
  pub range : Range
  pub holds : x ≡ Some (Number n)
  pub is : known ≡ Num range
  pub within : IsWithin n range
  pub below : n < 2 ^ 64

-- what is known of the operands of an instruction at a slot
pub record AreOperands (calls : List ℕ) (slot : ℕ) (left right : Abs) (x y : Option (Value ℕ)) : Type 0 where
  pub left_bound : IsBoundedValue slot left
  pub right_bound : IsBoundedValue slot right
  pub left_of : IsOf calls left x
  pub right_of : IsOf calls right y

pub number_value : (calls : List ℕ) (a : Abs) (x : Option (Value ℕ)) → is_unset a ≡ false → is_may a ≡ false → is_pointer a ≡ false
    → IsOf calls a x → IsNumberOf a x
number_value calls Unset x e m p h = absurd (cc)
number_value calls (May c) x e m p h = absurd (cc)
number_value calls (Stk k) x e m p h = absurd (cc)
number_value calls (Ctx a b) x e m p h = absurd (cc)
number_value calls (Ob c a b) x e m p h = absurd (cc)
number_value calls (Num r) None e m p h = absurd h
number_value calls (Num r) (Some (Number n)) e m p h =
    record { n = n; range = r; holds = refl; is = refl; within = h.0; below = h.1 }
number_value calls (Num r) (Some (Pointer base k)) e m p h = absurd h

-- a result that fits, with what is known of it
pub record IsFitting (calls : List ℕ) (known : Abs) (result : Result (Value ℕ) Trap) : Type 0 where
  pub v : Value ℕ
  pub is : result ≡ Ok v
  pub fits : FitsValue v
  pub of : IsOf calls known (Some v)

-- a pointer that is moved

one_end : (o : Option ℤ) (k : ℤ → Abs) (q : Abs) → with_end o k ≡ Some q → (e : ℤ) × (o ≡ Some e) × (k e ≡ q)
one_end None k q h = absurd (cc)
one_end (Some e) k q h = (e, refl, cc)

two_ends : (o u : Option ℤ) (k : ℤ → ℤ → Abs) (q : Abs) → with_ends o u k ≡ Some q → (e : ℤ) × (f : ℤ) × (o ≡ Some e) × (u ≡ Some f) × (k e f ≡ q)
two_ends None u k q h = absurd (cc)
two_ends (Some e) None k q h = absurd (cc)
two_ends (Some e) (Some f) k q h = (e, f, refl, refl, cc)

-- a value whose offset is moved, where it is a pointer
abbrev pub shifted : Value ℕ → ℤ → Result (Value ℕ) Trap
shifted (Number n) z = Err PointerMisuse
shifted (Pointer base k) z = Ok (Pointer base (k +ℤ z))

-- both ends moved by the ends of the number
moved_between : (a b k low high s : ℤ) (e f : ℤ) → e ≡ a +ℤ low → f ≡ b +ℤ high → a ≤ℤ k → k ≤ℤ b → low ≤ℤ s → s ≤ℤ high → (e ≤ℤ (k +ℤ s)) × ((k +ℤ s) ≤ℤ f)
moved_between a b k low high s e f p q ak kb ls sh = (omega (arith, ints, p, ak, ls), omega (arith, ints, q, kb, sh))

-- a pointer that is moved by a number between two ends lands between the moved ends of its offset. The stack's are exact
pub moved_fits : (calls : List ℕ) (p q : Abs) (v : Value ℕ) (z : ℤ) (ends : ℤ × ℤ) → is_pointer p ≡ true → IsOf calls p (Some v)
    → ends.0 ≤ℤ z → z ≤ℤ ends.1 → ((k : ℤ) → p ≡ Stk k → z ≡ ends.0) → moved_by p (Some ends) ≡ Some q
    → IsFitting calls q (shifted v z)
moved_fits calls Unset q v z ends is_p h low high exact m = absurd (cc)
moved_fits calls (Num a) q v z ends is_p h low high exact m = absurd (cc)
moved_fits calls (May c) q v z ends is_p h low high exact m = absurd (cc)
moved_fits calls (Stk k) q (Pointer Stack j) z ends is_p h low high exact m =
    let one = one_end (moved_end k ends.0) Stk q m in
    let near = near_end k ends.0 one.0 one.1 in
    let lands : j +ℤ z ≡ one.0 = ap (λ (i : ℤ). i +ℤ z) h ∙ ap (λ (i : ℤ). k +ℤ i) (exact k refl) ∙ sym near.0 in
    record {
      v = Pointer Stack (j +ℤ z);
      is = refl;
      fits = near_fits (j +ℤ z) (rw lands near.1);
      of = subst (λ (u : Abs). IsOf calls u (Some (Pointer Stack (j +ℤ z)))) one.2 lands;
    }
moved_fits calls (Ctx a d) q (Pointer Context j) z ends is_p h low high exact m =
    let two = two_ends (moved_end a ends.0) (moved_end d ends.1) Ctx q m in
    let near = near_end a ends.0 two.0 two.2 in
    let far = near_end d ends.1 two.1 two.3 in
    let inside = moved_between a d j ends.0 ends.1 z two.0 two.1 near.0 far.0 h.0 h.1 low high in
    record {
      v = Pointer Context (j +ℤ z);
      is = refl;
      fits = near_fits (j +ℤ z) (between_near two.0 two.1 (j +ℤ z) near.1 far.1 inside.0 inside.1);
      of = subst (λ (u : Abs). IsOf calls u (Some (Pointer Context (j +ℤ z)))) two.4 inside;
    }
moved_fits calls (Ob c a d) q (Pointer (Object at) j) z ends is_p h low high exact m =
    let two = two_ends (moved_end a ends.0) (moved_end d ends.1) (Ob c) q m in
    let near = near_end a ends.0 two.0 two.2 in
    let far = near_end d ends.1 two.1 two.3 in
    let inside = moved_between a d j ends.0 ends.1 z two.0 two.1 near.0 far.0 h.1 h.2 low high in
    record {
      v = Pointer (Object at) (j +ℤ z);
      is = refl;
      fits = near_fits (j +ℤ z) (between_near two.0 two.1 (j +ℤ z) near.1 far.1 inside.0 inside.1);
      of = subst (λ (u : Abs). IsOf calls u (Some (Pointer (Object at) (j +ℤ z)))) two.4 (h.0, inside.0, inside.1, h.3);
    }
moved_fits calls (Stk k) q _ z ends is_p h low high exact m = absurd h
moved_fits calls (Ctx a d) q _ z ends is_p h low high exact m = absurd h
moved_fits calls (Ob c a d) q _ z ends is_p h low high exact m = absurd h

-- a number of a constant range, read as a signed one, is either end
pub constant_reading : (b : Range) (n : ℕ) (ends : ℤ × ℤ) → not (eqb b.lo b.hi) ≡ false → IsWithin n b → signed_ends b ≡ Some ends
    → (signed_of n ≡ ends.0) × (signed_of n ≡ ends.1)
constant_reading b n ends one h e =
    let same : b.lo ≡ b.hi = ends_meet b.lo b.hi one in
    let low : n ≡ b.lo = omega arith in
    let high : n ≡ b.hi = omega arith in
    let are = reading (nat_lt b.hi (2 ^ 63) || _) (signed_of b.lo) (signed_of b.hi) ends e in
    (ap signed_of low ∙ are.0, ap signed_of high ∙ are.1)
  where
    ends_meet : (lo hi : ℕ) → not (eqb lo hi) ≡ false → lo ≡ hi
    ends_meet lo hi t = grind (arith, nat_tests)

    reading : (t : Bool) (lo hi : ℤ) (ends : ℤ × ℤ) → cond t (Some (lo, hi)) None ≡ Some ends → (lo ≡ ends.0) × (hi ≡ ends.1)
    reading true lo hi ends e = (ap (λ (o : Option (ℤ × ℤ)). (unwrap_or o ends).0) e, ap (λ (o : Option (ℤ × ℤ)). (unwrap_or o ends).1) e)
    reading false lo hi ends e = absurd (cc)
