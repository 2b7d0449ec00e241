-- Why the bytes of a program are refused, as the sentence of a line: that of the first of the three checks that refuses them. Of bytes
-- that none refuses there is none.
use Rattle.std.specs.Prelude.{◌≡◌, ℕ, List, [], length, Option, Some, None}
use Rattle.ebpf_state.specs.declared.kinds.KindRow.{KindRow}
use Rattle.ebpf_verify.specs.declared.decl.Decl.{Decl}
use Rattle.ebpf_verify.specs.declared.entry.EntryState.{EntryState}
use Rattle.ebpf_verify.specs.declared.examined.Examined.{Examined}
use Rattle.ebpf_verify.specs.declared.examined.Examined.TheVariants.{Undecoded, Misled, Refused, Accepted}
use Rattle.ebpf_verify.specs.declared.fault.VerifyCode.{VerifyCode}
use Rattle.ebpf_verify.specs.Examined.{IsExamined}
use Rattle.ebpf_verify.specs.Subject.{Subject}
use Rattle.ebpf_verify.specs.Traces.{looked_at, entries_below}
use Rattle.ebpf_verify.specs.Verdict.{verdict}
use Rattle.ebpf_explain.specs.DecodeSentences.{decode_sentence}
use Rattle.ebpf_explain.specs.Reasons.{reason_at, misled_in}

-- by the entries that the verifier looks at
abbrev pub why_refused : Option (ℕ × VerifyCode) → Subject → List EntryState → List ℕ
why_refused None s entries = []
why_refused (Some refusal) s entries = reason_at s entries refusal.0 refusal.1

abbrev pub why_verified : Subject → List ℕ
why_verified s = why_refused (verdict s) s (entries_below s.program (looked_at (verdict s) (length s.program)))

-- by how far the bytes come
abbrev pub why_of : List ℕ → Decl → List KindRow → Examined → List ℕ
why_of bytes decl rows (Undecoded slot code) = decode_sentence bytes slot code
why_of bytes decl rows (Misled p slot code) = misled_in p slot code
why_of bytes decl rows (Refused p slot code) = why_verified (record { program = p; decl = decl; rows = rows })
why_of bytes decl rows (Accepted s) = []

-- why bytes are refused, with what is declared and the kinds
pub record IsWhy (bytes : List ℕ) (decl : Decl) (rows : List KindRow) (why : List ℕ) : Type 0 where
  pub examined : Examined
  pub is_examined : IsExamined bytes decl rows examined
  pub is : why ≡ why_of bytes decl rows examined
