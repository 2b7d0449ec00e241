-- Which words of the stack are free.
use Rattle.std.specs.Prelude.{◌≡◌, ◌<◌, ◌*◌, ◌+ℤ◌, ℕ, ℤ, pos, negsuc, List, Option}
use Rattle.ebpf_insn.specs.declared.register.Reg.TheVariants.{R10}
use Rattle.ebpf_insn.specs.declared.insn.Insn.{Insn}
use Rattle.ebpf_insn.specs.Program.{insn_at}
use Rattle.ebpf_link.specs.Apart.{Reaches, IsApart}

-- where a word that is tried begins, in bytes from r10, by its number from the lowest: -512, -384, -256 or -128
abbrev pub word_at : ℕ → ℤ
word_at number = negsuc 511 +ℤ pos (128 * number)

abbrev pub IsWord : ℤ → Type 0
IsWord word = (number : ℕ) × (number < 4) × (word ≡ word_at number)

-- what is at a slot is no load or store by r10 itself that touches the word
abbrev pub IsFreeAt : List (Option Insn) → ℤ → ℕ → Type 0
IsFreeAt p word slot = (bytes : ℕ) (offset : ℤ) → Reaches (insn_at p slot) R10 bytes offset → IsApart offset bytes word

-- no load and no store of the program by r10 itself touches the word
abbrev pub IsFree : List (Option Insn) → ℤ → Type 0
IsFree p word = (slot : ℕ) → IsFreeAt p word slot
