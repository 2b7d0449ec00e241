-- The instructions of a program, and those below a slot.
use Rattle.std.proofs.Common.{◌≡◌, ℕ, zero, suc, ◌+◌, ◌<◌, ◌≤◌, List, [], ◌∷◌, ◌++◌, length, take, Option, Some, None, refl, ap, ◌∙◌, subst, add-one, arith}
use Rattle.std.proofs.lemmas.List.Concat.{flat_map-append}
use Rattle.ebpf_insn.specs.declared.insn.Insn.{Insn}
use Rattle.std.specs.List.{flat_map, AllByRecursion}
use Rattle.ebpf_insn.specs.Program.{instructions, insn_at, count_below}
use Rattle.ebpf_insn.specs.Encoding.{encoding, IsDefined}

-- there are at most as many instructions as slots
pub instructions-length : (p : List (Option Insn)) → length (instructions p) ≤ length p
instructions-length [] = omega arith
instructions-length (None ∷ p) = omega (arith, instructions-length p)
instructions-length (Some i ∷ p) = omega (arith, instructions-length p)

-- an instruction counts below every later slot
pub count_below-more : (p : List (Option Insn)) (j k : ℕ) (i : Insn) → insn_at p j ≡ Some i → j < k → count_below p j < count_below p k
count_below-more [] j k i at lt = absurd (cc)
count_below-more (o ∷ p) j zero i at lt = absurd (omega arith)
count_below-more (None ∷ p) zero (suc k) i at lt = absurd (cc)
count_below-more (Some x ∷ p) zero (suc k) i at lt = omega arith
count_below-more (None ∷ p) (suc j) (suc k) i at lt = count_below-more p j k i at (omega arith)
count_below-more (Some x ∷ p) (suc j) (suc k) i at lt = omega (arith, count_below-more p j k i at (omega arith))

-- and no more than all there are
pub count_below-all : (p : List (Option Insn)) (k : ℕ) → count_below p k ≤ length (instructions p)
count_below-all [] zero = omega arith
count_below-all [] (suc k) = omega arith
count_below-all (o ∷ p) zero = omega arith
count_below-all (None ∷ p) (suc k) = count_below-all p k
count_below-all (Some i ∷ p) (suc k) = omega (arith, count_below-all p k)

-- an instruction of a program has an encoding
pub defined_at : (p : List (Option Insn)) (k : ℕ) (i : Insn) → AllByRecursion IsDefined (instructions p) → insn_at p k ≡ Some i → IsDefined i
defined_at [] k i all at = absurd (cc)
defined_at (None ∷ p) zero i all at = absurd (cc)
defined_at (None ∷ p) (suc k) i all at = defined_at p k i all at
defined_at (Some x ∷ p) zero i all at = let same : x ≡ i = cc in subst IsDefined same all.0
defined_at (Some x ∷ p) (suc k) i all at = defined_at p k i all.1 at

-- an instruction is at a slot of the program
pub insn_at_within : (p : List (Option Insn)) (k : ℕ) (i : Insn) → insn_at p k ≡ Some i → k < length p
insn_at_within [] k i at = absurd (cc)
insn_at_within (o ∷ p) zero i at = omega arith
insn_at_within (o ∷ p) (suc k) i at = omega (arith, insn_at_within p k i at)

-- the instructions of one slot more
abbrev pub listed_insn : Option Insn → List Insn
listed_insn None = []
listed_insn (Some i) = i ∷ []

pub instructions_next : (p : List (Option Insn)) (k : ℕ) → k < length p → instructions (take (suc k) p) ≡ instructions (take k p) ++ listed_insn (insn_at p k)
instructions_next [] k lt = absurd (omega arith)
instructions_next (None ∷ p) zero lt = refl
instructions_next (Some i ∷ p) zero lt = refl
instructions_next (None ∷ p) (suc k) lt = instructions_next p k (omega arith)
instructions_next (Some i ∷ p) (suc k) lt = ap (λ (is : List Insn). i ∷ is) (instructions_next p k (omega arith))

-- and their bytes
pub bytes_next : (p : List (Option Insn)) (k : ℕ) (o : Option Insn) → k < length p → insn_at p k ≡ o
    → flat_map encoding (instructions (take (k + 1) p)) ≡ flat_map encoding (instructions (take k p)) ++ flat_map encoding (listed_insn o)
bytes_next p k o lt here =
    ap (λ (n : ℕ). flat_map encoding (instructions (take n p))) (add-one k) ∙ ap (flat_map encoding) (instructions_next p k lt)
    ∙ flat_map-append encoding (instructions (take k p)) (listed_insn (insn_at p k)) ∙ ap
    (λ (x : Option Insn). flat_map encoding (instructions (take k p)) ++ flat_map encoding (listed_insn x)) here
