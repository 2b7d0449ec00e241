-- The slot after an instruction is an instruction's, unless the program ends there.
use Rattle.std.proofs.Common.{◌≡◌, ℕ, zero, suc, ◌+◌, ◌<◌, List, [], ◌∷◌, length, Option, Some, None, false, refl, sym, subst, arith}
use Rattle.std.specs.Prelude.{is_none}
use Rattle.std.specs.List.{flat_map}
use Rattle.ebpf_insn.specs.declared.insn.Insn.{Insn}
use Rattle.ebpf_insn.specs.declared.insn.Insn.TheVariants as insn
use Rattle.ebpf_insn.specs.Program.{placed, slots_in, insn_at, instructions}
use Rattle.ebpf_insn.specs.Encoding.{IsWellFormed}

first_is_insn : (is : List Insn) → 0 < length (flat_map placed is) → is_none (insn_at (flat_map placed is) 0) ≡ false
first_is_insn [] lt = absurd (omega arith)
first_is_insn (insn.Wide dst value ∷ is) lt = refl
first_is_insn (_ ∷ is) lt = refl

-- an instruction after which p comes, followed by an instruction if by anything
abbrev IsFollowed : List (Option Insn) → ℕ → Insn → Type 0
IsFollowed p k i = insn_at p k ≡ Some i → k + slots_in i < length p → is_none (insn_at p (k + slots_in i)) ≡ false

behind : (o : Option Insn) (p : List (Option Insn)) (k : ℕ) (i : Insn) → IsFollowed p k i → IsFollowed (o ∷ p) (suc k) i
behind o p k i h at lt = let e : suc k + slots_in i ≡ suc (k + slots_in i) = omega arith in rw e (h at (omega arith))

at_first : (j i : Insn) (p : List (Option Insn)) → slots_in j ≡ 1 → (0 < length p → is_none (insn_at p 0) ≡ false) → IsFollowed (Some j ∷ p) 0 i
at_first j i p one first at lt =
    let same : i ≡ j = cc in
    let e : 0 + slots_in i ≡ 1 = rw same (rw one refl) in
    rw e (first (omega (arith, e)))

followed : (is : List Insn) (k : ℕ) (i : Insn) → IsFollowed (flat_map placed is) k i
followed [] k i at lt = absurd (omega arith)
followed (insn.Wide dst value ∷ is) zero i at lt =
    let same : i ≡ insn.Wide dst value = cc in
    let e : 0 + slots_in i ≡ 2 = rw same refl in
    rw e (first_is_insn is (omega (arith, e)))
followed (insn.Wide dst value ∷ is) (suc zero) i at lt = absurd (cc)
followed (insn.Wide dst value ∷ is) (suc (suc k)) i at lt =
    behind (Some (insn.Wide dst value)) (None ∷ flat_map placed is) (suc k) i (behind None (flat_map placed is) k i (followed is k i)) at lt
followed (j ∷ is) zero i at lt = at_first j i (flat_map placed is) refl (first_is_insn is) at lt
followed (j ∷ is) (suc k) i at lt = behind (Some j) (flat_map placed is) k i (followed is k i) at lt

pub next_is_insn : (p : List (Option Insn)) (k : ℕ) (i : Insn) → IsWellFormed p → insn_at p k ≡ Some i → k + slots_in i < length p
    → is_none (insn_at p (k + slots_in i)) ≡ false
next_is_insn p k i formed = subst (λ (q : List (Option Insn)). IsFollowed q k i) (sym formed.placed) (followed (instructions p) k i)

pub slot_zero_is_insn : (p : List (Option Insn)) → IsWellFormed p → is_none (insn_at p 0) ≡ false
slot_zero_is_insn p formed =
    let some : 0 < length (flat_map placed (instructions p)) = subst (λ (q : List (Option Insn)). 0 < length q) formed.placed formed.some in
    subst (λ (q : List (Option Insn)). is_none (insn_at q 0) ≡ false) (sym formed.placed) (first_is_insn (instructions p) some)
