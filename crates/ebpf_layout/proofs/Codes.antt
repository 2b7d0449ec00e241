-- An instruction more before the code.
use Rattle.std.proofs.Common.{◌≡◌, ℕ, ◌+◌, ◌<◌, ◌≤◌, List, [], ◌∷◌, ◌++◌, length, Option, Some, refl, sym, ap, ◌∙◌, arith}
use Rattle.std.specs.Prelude.{reverse}
use Rattle.std.specs.List.{flat_map}
use Rattle.std.proofs.lemmas.List.{reverse-append, reverse-reverse, length-reverse, length-append}
use Rattle.ebpf_insn.specs.declared.insn.Insn.{Insn}
use Rattle.ebpf_insn.specs.declared.insn.Insn.TheVariants as insn
use Rattle.ebpf_insn.specs.Program.{instructions, placed, slots_in}
use Rattle.ebpf_insn.specs.Encoding.{IsDefined, IsWellFormed}
use Rattle.ebpf_insn.proofs.ProgramLemmas.{instructions-length}
use Rattle.ebpf_layout.specs.Writing.{half_of, IsCode}

-- the slots of an instruction, from the last to the first
pub halves : (i : Insn) → half_of i ++ Some i ∷ [] ≡ reverse (placed i)
halves (insn.Wide dst value) = refl
halves _ = refl

instructions-placed : (i : Insn) (r : List (Option Insn)) → instructions (placed i ++ r) ≡ i ∷ instructions r
instructions-placed (insn.Wide dst value) r = refl
instructions-placed _ r = refl

pub reverse-push : (code : List (Option Insn)) (i : Insn) → reverse (code ++ reverse (placed i)) ≡ placed i ++ reverse code
reverse-push code i = reverse-append code (reverse (placed i)) ∙ ap (λ (x : List (Option Insn)). x ++ reverse code) (reverse-reverse (placed i))

pub count_fits : (code : List (Option Insn)) (count : ℕ) → IsCode code count → count ≤ 8192
count_fits code count h = omega (arith, h.few, h.counted, instructions-length (reverse code), length-reverse code)

pub code_more : (code : List (Option Insn)) (count : ℕ) (i : Insn) → IsCode code count → IsDefined i
    → length code + slots_in i ≤ 8192 → IsCode (code ++ reverse (placed i)) (count + 1)
code_more code count i h defined few =
    let back = reverse-push code i in
    let parts : instructions (reverse (code ++ reverse (placed i))) ≡ i ∷ instructions (reverse code) =
    ap instructions back ∙ instructions-placed i (reverse code) in
    let len : length (reverse (placed i)) ≡ slots_in i = length-reverse (placed i) in
    record {
      few = omega (arith, length-append code (reverse (placed i)));
      counted = rw parts (omega (arith, h.counted));
      defined = rw parts (defined, h.defined);
      placed = back ∙ ap (λ (x : List (Option Insn)). placed i ++ x) h.placed ∙ sym (ap (flat_map placed) parts);
    }

-- the code of something is a program's
pub well_formed : (code : List (Option Insn)) (count : ℕ) → IsCode code count → 0 < length code → length code ≤ 4096 → IsWellFormed (reverse code)
well_formed code count h some few = record {
  some = omega (arith, length-reverse code);
  few = omega (arith, length-reverse code);
  defined = h.defined;
  placed = h.placed;
}
