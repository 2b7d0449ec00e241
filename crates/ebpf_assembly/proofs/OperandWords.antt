-- Which words are registers and places.
use Rattle.std.proofs.Common.{arith, ◌≡◌, ◌≢◌, ◌⊎◌, inl, inr, ℕ, ◌<◌, ◌^◌, List, [], ◌∷◌, ◌++◌, length, drop, sym, ap, ◌∙◌, append_assoc}
use Rattle.std.specs.Prelude.{ℤ, Option, Some, None, FitsSigned, decimal}
use Rattle.std.specs.Option.{MatchOption}
use Rattle.std.specs.Int.{w16}
use Rattle.std.proofs.lemmas.Fmt.{decimal_injective}
use Rattle.ebpf_insn.specs.declared.register.Reg.{Reg}
use Rattle.ebpf_insn.specs.declared.register.Reg.TheVariants.{R0, R1, R2, R3, R4, R5, R6, R7, R8, R9, R10}
use Rattle.ebpf_insn.specs.Registers.{number_of}
use Rattle.ebpf_text.specs.Operands.{register_text, offset_text, place_text}
use Rattle.ebpf_assembly.specs.Reading.{IsPlaceRead, IsPlaceReadAt}
use Rattle.ebpf_assembly.proofs.WordsUnique.{init, init_back}
use Rattle.ebpf_assembly.proofs.RegisterNames.{names}

-- a register has the number of its text
few : (r : Reg) → number_of r < 2 ^ 64
few R0 = omega arith
few R1 = omega arith
few R2 = omega arith
few R3 = omega arith
few R4 = omega arith
few R5 = omega arith
few R6 = omega arith
few R7 = omega arith
few R8 = omega arith
few R9 = omega arith
few R10 = omega arith

abbrev IsRegister : List ℕ → Option Reg → Type 0
IsRegister word o = MatchOption o ((r : Reg) → word ≢ register_text r) (λ r. word ≡ register_text r)

begins : {word rest : List ℕ} {first k : ℕ} → word ≡ first ∷ rest → first ≡ k → word ≡ k ∷ rest
begins {word} {rest} e f = e ∙ ap (λ (c : ℕ). c ∷ rest) f

pub register_read : (first : ℕ) (rest word : List ℕ) (n : ℕ) (o : Option Reg) → word ≡ first ∷ rest → first ≡ 114 → n < 2 ^ 64 → rest ≡ decimal n
    → MatchOption o ((r : Reg) → n ≢ number_of r) (λ r. n ≡ number_of r) → IsRegister word o
register_read first rest word n (Some r) is letter small same of = begins is letter ∙ ap (λ (xs : List ℕ). 114 ∷ xs) (same ∙ ap decimal of)
register_read first rest word n None is letter small same of =
    λ r e. of r (decimal_injective n (number_of r) small (few r) (sym same ∙ ap (drop 1) (sym (begins is letter) ∙ e)))

-- places
name_len : (r : Reg) → (length (register_text r) ≡ 2) ⊎ (length (register_text r) ≡ 3)
name_len R0 = inl (ap length (names R0))
name_len R1 = inl (ap length (names R1))
name_len R2 = inl (ap length (names R2))
name_len R3 = inl (ap length (names R3))
name_len R4 = inl (ap length (names R4))
name_len R5 = inl (ap length (names R5))
name_len R6 = inl (ap length (names R6))
name_len R7 = inl (ap length (names R7))
name_len R8 = inl (ap length (names R8))
name_len R9 = inl (ap length (names R9))
name_len R10 = inr (ap length (names R10))

pub bracketed : (r : Reg) (z : ℤ) → place_text r z ≡ 91 ∷ ((register_text r ++ offset_text z) ++ 93 ∷ [])
bracketed r z = ap (λ (xs : List ℕ). 91 ∷ xs) (sym (append_assoc (register_text r) (offset_text z) (93 ∷ [])))

pub place_unread : (word : List ℕ) → ((inner : List ℕ) → word ≢ 91 ∷ (inner ++ 93 ∷ [])) → (r : Reg) (z : ℤ) → FitsSigned w16 z → word ≢ place_text r z
place_unread word none r z fits e = none (register_text r ++ offset_text z) (e ∙ bracketed r z)

inside : (word inner : List ℕ) (r : Reg) (z : ℤ) → word ≡ 91 ∷ (inner ++ 93 ∷ []) → word ≡ place_text r z → inner ≡ register_text r ++ offset_text z
inside word inner r z is e =
    sym (init_back inner 93) ∙ (ap init (ap (drop 1) (sym is ∙ (e ∙ bracketed r z))) ∙ init_back (register_text r ++ offset_text z) 93)

pub place_found : (word inner : List ℕ) (r : Reg) (z : ℤ) → word ≡ 91 ∷ (inner ++ 93 ∷ []) → inner ≡ register_text r ++ offset_text z → word ≡ place_text r z
place_found word inner r z is e = is ∙ (ap (λ (xs : List ℕ). 91 ∷ (xs ++ 93 ∷ [])) e ∙ sym (bracketed r z))

pub place_read : (word inner : List ℕ) (o : Option (Reg × ℤ)) → word ≡ 91 ∷ (inner ++ 93 ∷ []) → IsPlaceReadAt inner 2 None
    → IsPlaceReadAt inner 3 o → IsPlaceRead word o
place_read word inner (Some p) is two three = (three.0, place_found word inner p.0 p.1 is three.1)
place_read word inner None is two three = λ r z fits e. which r z fits (inside word inner r z is e) (name_len r) where
  which : (r : Reg) (z : ℤ) → FitsSigned w16 z → inner ≡ register_text r ++ offset_text z → (length (register_text r) ≡ 2) ⊎ (length (register_text r) ≡ 3) → ⊥
  which r z fits e (inl len) = two r z fits len e
  which r z fits e (inr len) = three r z fits len e
