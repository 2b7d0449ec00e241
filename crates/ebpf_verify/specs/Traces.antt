-- What the verdict rests on.
use Rattle.std.specs.Prelude.{◌≡◌, ◌<◌, ◌≤◌, ◌++◌, ℕ, zero, suc, List, [], ◌∷◌, length, Option, Some, None}
use Rattle.ebpf_insn.specs.declared.insn.Insn.{Insn}
use Rattle.ebpf_verify.specs.declared.entry.EntryState.{EntryState}
use Rattle.ebpf_verify.specs.declared.fault.VerifyCode.{VerifyCode}
use Rattle.ebpf_verify.specs.Subject.{Subject}
use Rattle.ebpf_verify.specs.Entry.{entry_of}
use Rattle.ebpf_verify.specs.Verdict.{verdict, refusal_at}

-- how many slots are looked at: those up to the refused one
abbrev pub looked_at : Option (ℕ × VerifyCode) → ℕ → ℕ
looked_at None slots = slots
looked_at (Some refusal) slots = suc refusal.0

-- the entries of the slots below m, in their order
unfoldable pub entries_below : List (Option Insn) → ℕ → List EntryState
entries_below p zero = []
entries_below p (suc m) = entries_below p m ++ entry_of p m ∷ []

-- the verdict, and the entry of each slot that is looked at
pub record IsTrace (s : Subject) (entries : List EntryState) (refused : Option (ℕ × VerifyCode)) : Type 0 where
  pub refusal : refused ≡ verdict s
  pub all : entries ≡ entries_below s.program (looked_at (verdict s) (length s.program))

-- these are the entries of the slots that were looked at, and none but the last of those is refused
pub record AreLookedAt (s : Subject) (entries : List EntryState) : Type 0 where
  pub all : entries ≡ entries_below s.program (length entries)
  pub inside : length entries ≤ length s.program
  pub fine : (slot : ℕ) → suc slot < length entries → refusal_at s slot ≡ None
