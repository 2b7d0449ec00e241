-- One more instruction is written, and what is written is turned round.
use Rattle.std.proofs.Common.{◌≡◌, ℕ, zero, suc, ◌+◌, ◌<◌, ◌≤◌, ℤ, List, [], ◌∷◌, ◌++◌, length, get_or, Option}
use Rattle.std.proofs.Common.{Some, None, refl, sym, ap, subst, ◌∙◌, arith, inl, inr}
use Rattle.std.specs.Prelude.{reverse, slice_get, ◌-◌}
use Rattle.std.proofs.lemmas.Option.{none-some, same_Some, slice_get_within, slice_get-get_or, get_or_from_slice_get}
use Rattle.std.proofs.lemmas.List.{length-append, length_push, append_assoc, append-nil, length-reverse, get_or-reverse}
use Rattle.ebpf_insn.specs.declared.insn.Insn.{Insn}
use Rattle.ebpf_insn.specs.declared.insn.Insn.TheVariants as insn
use Rattle.ebpf_insn.specs.Program.{insn_at, placed, slots_in}
use Rattle.ebpf_insn.specs.Encoding.{IsDefined}
use Rattle.ebpf_layout.specs.Layout.{moved, copied_in}
use Rattle.ebpf_layout.specs.Writing.{half_of, IsCode}
use Rattle.ebpf_layout.proofs.Codes.{halves, code_more}
use Rattle.ebpf_layout.proofs.Lists.{get_kept, get_last, get_pushed}
use Rattle.ebpf_layout.proofs.Written.{length-half}
use Rattle.ebpf_layout.proofs.Places.{code_at}
use Rattle.ebpf_unroll.specs.Unrolling.{AreCopies}
use Rattle.ebpf_unroll.specs.Written.{IsCopyOf, half_copied, IsWritten}

-- the copies among what is written
abbrev AreWritten : List (Option Insn) → List (Option Insn) → List (Option ℕ) → Type 0
AreWritten p code of =
    (k slot : ℕ) (i : Insn) → slice_get of k ≡ Some (Some slot) → insn_at p slot ≡ Some i → (z : ℤ) × (slice_get code k ≡ Some (Some (moved i z)))

even_push : (p code : List (Option Insn)) (of : List (Option ℕ)) (o : Option Insn) (x : Option ℕ) → length of ≡ length code → AreWritten p code of
    → ((slot : ℕ) (i : Insn) → x ≡ Some slot → insn_at p slot ≡ Some i → (z : ℤ) × (o ≡ Some (moved i z)))
    → AreWritten p (code ++ o ∷ []) (of ++ x ∷ [])
even_push p code of o x even copies new k slot i e at = elim (get_pushed of x k (Some slot) e) [
  | inl old ↦ let c = copies k slot i old at in (c.0, get_kept code (o ∷ []) k (Some (moved i c.0)) c.1)
  | inr here ↦
      let c = new slot i (sym here.1) at in
      let last : k ≡ length code = here.0 ∙ even in
      (c.0, ap (slice_get (code ++ o ∷ [])) last ∙ get_last code o ∙ ap Some c.1)
]

half_even : (p code : List (Option Insn)) (of : List (Option ℕ)) (j : Insn) → length of ≡ length code → AreWritten p code of
    → (length (of ++ half_copied j) ≡ length (code ++ half_of j)) × AreWritten p (code ++ half_of j) (of ++ half_copied j)
half_even p code of (insn.Wide dst value) even copies =
    (length_push of None ∙ omega (arith, even, length_push code None), even_push p code of None None even copies (λ slot i e at. absurd (none-some slot e)))
half_even p code of _ even copies = rw (append-nil code, append-nil of) (even, copies)

pub written_more : (p code : List (Option Insn)) (of : List (Option ℕ)) (count : ℕ) (j : Insn) (x : Option ℕ) → IsWritten p code of count
    → length code + slots_in j ≤ 8192 → IsDefined j → IsCopyOf p j x
    → IsWritten p ((code ++ half_of j) ++ Some j ∷ []) ((of ++ half_copied j) ++ x ∷ []) (count + 1)
written_more p code of count j x h room defined is_of =
    let half = half_even p code of j h.even h.copies in
    let placed_is : (code ++ half_of j) ++ Some j ∷ [] ≡ code ++ reverse (placed j) =
    append_assoc code (half_of j) (Some j ∷ []) ∙ ap (λ (r : List (Option Insn)). code ++ r) (halves j) in
    record {
      coded = subst (λ (c : List (Option Insn)). IsCode c (count + 1)) (sym placed_is) (code_more code count j h.coded defined room);
      even = length_push (of ++ half_copied j) x ∙ omega (arith, half.0, length_push (code ++ half_of j) (Some j));
      copies = even_push p (code ++ half_of j) (of ++ half_copied j) (Some j) x half.0 half.1 (new x is_of);
    } where
      new : (y : Option ℕ) → IsCopyOf p j y → (slot : ℕ) (i : Insn) → y ≡ Some slot → insn_at p slot ≡ Some i → (z : ℤ) × (Some j ≡ Some (moved i z))
      new None u slot i e at = absurd (none-some slot e)
      new (Some there) u slot i e at =
          let same : there ≡ slot = same_Some there slot e in
          let c = u i (ap (insn_at p) same ∙ at) in (c.0, ap Some c.1)

pub longer : (code : List (Option Insn)) (j : Insn) → length ((code ++ half_of j) ++ Some j ∷ []) ≡ length code + slots_in j
longer code j = length_push (code ++ half_of j) (Some j) ∙ omega (arith, length-append code (half_of j), length-half j)

pub none_written : (p code : List (Option Insn)) (of : List (Option ℕ)) → code ≡ [] → of ≡ [] → IsWritten p code of 0
none_written p code of e f = subst (λ (c : List (Option Insn)). IsWritten p c of 0) (sym e)
    (subst (λ (o : List (Option ℕ)). IsWritten p [] o 0) (sym f) (record {
      coded = record { few = omega arith; counted = refl; defined = tt; placed = refl };
      even = refl;
      copies = λ k slot i e at. absurd (none-some (Some slot) e);
    }))

-- ---- what is written, from its first slot

get_back : {X : Type 0} (xs : List X) (k : ℕ) (x : X) → slice_get (reverse xs) k ≡ Some x → (j : ℕ) × (k + j + 1 ≡ length xs) × (slice_get xs j ≡ Some x)
get_back xs k x e =
    let within : k < length (reverse xs) = slice_get_within (reverse xs) k x e in
    let inside : k < length xs = omega (arith, length-reverse xs) in
    let read : get_or (reverse xs) k x ≡ x = get_or_from_slice_get (reverse xs) k x x e in
    let there : get_or xs (length xs - 1 - k) x ≡ x = sym (get_or-reverse xs k x inside) ∙ read in
    (length xs - 1 - k, omega arith, slice_get-get_or xs (length xs - 1 - k) x (omega arith) ∙ ap Some there)

in_list : (of : List (Option ℕ)) (at slot : ℕ) → copied_in of at ≡ Some slot → slice_get of at ≡ Some (Some slot)
in_list [] at slot e = absurd (none-some slot e)
in_list (x ∷ of) zero slot e = ap Some e
in_list (x ∷ of) (suc at) slot e = in_list of at slot e

pub are_copies : (p code : List (Option Insn)) (of : List (Option ℕ)) (count : ℕ) → IsWritten p code of count
    → AreCopies p (reverse code) (copied_in (reverse of))
are_copies p code of count h at slot i e here =
    let back = get_back of at (Some slot) (in_list (reverse of) at slot e) in
    let c = h.copies back.0 slot i back.2 here in
    (c.0, code_at code at back.0 (moved i c.0) (back.1 ∙ h.even) c.1)
