-- One more instruction after the code.
use Rattle.std.proofs.Common.{◌≡◌, ℕ, ◌+◌, ◌<◌, ◌≤◌, List, [], ◌∷◌, ◌++◌, length, Option, Some, None, refl, sym, ap, ◌∙◌, arith}
use Rattle.std.specs.List.{flat_map, AllByRecursion}
use Rattle.std.proofs.lemmas.List.{length-append}
use Rattle.std.proofs.lemmas.List.Concat.{flat_map-append}
use Rattle.ebpf_insn.specs.declared.insn.Insn.{Insn}
use Rattle.ebpf_insn.specs.declared.insn.Insn.TheVariants as insn
use Rattle.ebpf_insn.specs.Program.{instructions, placed, slots_in}
use Rattle.ebpf_insn.specs.Encoding.{IsDefined, IsWellFormed}
use Rattle.ebpf_insn.proofs.ProgramLemmas.{instructions-length}
use Rattle.ebpf_link.specs.Written.{IsCode}

instructions-append : (a b : List (Option Insn)) → instructions (a ++ b) ≡ instructions a ++ instructions b
instructions-append [] b = refl
instructions-append (None ∷ a) b = instructions-append a b
instructions-append (Some i ∷ a) b = ap (λ (x : List Insn). i ∷ x) (instructions-append a b)

instructions-placed : (i : Insn) → instructions (placed i) ≡ i ∷ []
instructions-placed (insn.Wide dst value) = refl
instructions-placed _ = refl

append-nil : (a : List (Option Insn)) → a ++ [] ≡ a
append-nil [] = refl
append-nil (x ∷ a) = ap (λ (y : List (Option Insn)). x ∷ y) (append-nil a)

all-append : (a : List Insn) (i : Insn) → AllByRecursion IsDefined a → IsDefined i → AllByRecursion IsDefined (a ++ i ∷ [])
all-append [] i all d = (d, tt)
all-append (x ∷ a) i all d = (all.0, all-append a i all.1 d)

pub count_fits : (code : List (Option Insn)) (count : ℕ) → IsCode code count → count ≤ length code
count_fits code count h = omega (arith, h.counted, instructions-length code)

pub code_more : (code : List (Option Insn)) (count : ℕ) (i : Insn) → IsCode code count → IsDefined i → IsCode (code ++ placed i) (count + 1)
code_more code count i h d =
    let parts : instructions (code ++ placed i) ≡ instructions code ++ i ∷ [] =
    instructions-append code (placed i) ∙ ap (λ (x : List Insn). instructions code ++ x) (instructions-placed i) in
    record {
      counted = rw parts (omega (arith, h.counted, length-append (instructions code) (i ∷ [])));
      defined = rw parts (all-append (instructions code) i h.defined d);
      placed = ap (λ (x : List (Option Insn)). x ++ placed i) h.placed
          ∙ sym (ap (flat_map placed) parts ∙ flat_map-append placed (instructions code) (i ∷ []) ∙ ap (λ (x : List (Option Insn)). flat_map placed (instructions code) ++ x) (append-nil (placed i)));
    }

-- code that is short enough is a program's
pub well_formed : (code : List (Option Insn)) (count : ℕ) → IsCode code count → 0 < length code → length code ≤ 4096 → IsWellFormed code
well_formed code count h some few = record { some = some; few = few; defined = h.defined; placed = h.placed }

pub code_none : IsCode [] 0
code_none = record { counted = refl; defined = tt; placed = refl }

pub two_slots : (i : Insn) → slots_in i ≡ 2 → placed i ≡ Some i ∷ None ∷ []
two_slots (insn.Wide dst value) e = refl
two_slots _ e = absurd (cc)

pub one_slot : (i : Insn) → (slots_in i ≡ 2 → ⊥) → placed i ≡ Some i ∷ []
one_slot (insn.Wide dst value) other = absurd (other refl)
one_slot _ other = refl
