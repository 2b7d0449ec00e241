-- What it means that the word of a linked program is right, and that what is known before its slots shows it.
use Rattle.std.specs.Prelude.{◌≡◌, ℕ, ℤ, List, Option, None}
use Rattle.ebpf_insn.specs.declared.insn.Insn.{Insn}
use Rattle.ebpf_flow.specs.Flow.{flow_fault}
use Rattle.ebpf_verify.specs.Subject.{Subject}
use Rattle.ebpf_verify.specs.Verdict.{IsAccepted, verdict}
use Rattle.ebpf_link.specs.declared.right.Judged.{Judged}
use Rattle.ebpf_link.specs.declared.right.Judged.TheVariants.{Misled, Refused, Unshown, Shown}
use Rattle.ebpf_link.specs.Pointing.{AreFetched, HoldsAfter}
use Rattle.ebpf_link.specs.Apart.{AreApart, ApartAt}

-- in every run of q, what is fetched from the word is the context's pointer, and all else that is loaded or stored is apart from the word
pub record IsRight (q : List (Option Insn)) (word : ℤ) : Type 0 where
  pub fetched : AreFetched q word
  pub apart : AreApart q word

-- what is known before a slot, and before the next one, shows it of what is there
pub record IsShownAt (q : List (Option Insn)) (word : ℤ) (slot : ℕ) : Type 0 where
  pub holds : HoldsAfter q word slot
  pub apart : ApartAt q word slot

abbrev pub IsShown : List (Option Insn) → ℤ → Type 0
IsShown q word = (slot : ℕ) → IsShownAt q word slot

-- what the checks say of a program, and whether they show that the word is right
abbrev pub IsJudged : Subject → ℤ → Judged → Type 0
IsJudged s word Misled = flow_fault s.program ≡ None → ⊥
IsJudged s word Refused = verdict s ≡ None → ⊥
IsJudged s word Unshown = IsAccepted s × (IsShown s.program word → ⊥)
IsJudged s word Shown = IsAccepted s × IsShown s.program word
