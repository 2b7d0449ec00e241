-- What becomes of bytes that are loaded as a program.
use Rattle.std.specs.Prelude.{◌≡◌, ◌<◌, ◌≤◌, ◌⊎◌, ℕ, List, Some, string_bytes}
use Rattle.ebpf_state.specs.declared.kinds.KindRow.{KindRow}
use Rattle.ebpf_state.specs.Kinds.{AreKinds}
use Rattle.ebpf_verify.specs.declared.decl.Decl.{Decl}
use Rattle.ebpf_verify.specs.Subject.{Subject}
use Rattle.ebpf_command.specs.declared.judge.Judged.{Judged}
use Rattle.ebpf_command.specs.declared.judge.Judged.TheVariants.{Accepted, Refused}
use Rattle.ebpf_command.specs.Judging.{IsJudged}
use Rattle.ebpf_explain.specs.Why.{IsWhy}
use Rattle.ebpf_host.specs.declared.refusal.Refusal.{Refusal}
use Rattle.ebpf_host.specs.declared.refusal.LoadFault.{LoadFault}
use Rattle.ebpf_host.specs.declared.refusal.LoadFault.TheVariants as fault

-- what is declared, and the kinds
pub record AreDeclared (context held : ℕ) (decl : Decl) (rows : List KindRow) : Type 0 where
  pub context_is : decl.context ≡ context
  pub held_is : decl.held ≡ held
  pub kinds : AreKinds rows

-- bytes are judged to be this, with a context of this length and n objects
pub record IsJudgedWith (bytes : List ℕ) (context held : ℕ) (judged : Judged) : Type 0 where
  pub decl : Decl
  pub rows : List KindRow
  pub declared : AreDeclared context held decl rows
  pub is : IsJudged bytes decl rows judged

-- they are accepted, as this program
abbrev pub IsLoaded : List ℕ → (context held : ℕ) → Subject → Type 0
IsLoaded bytes context held s = IsJudgedWith bytes context held (Accepted s)

-- they are refused, with a sentence that says why
pub record IsRefusal (bytes : List ℕ) (context held : ℕ) (r : Refusal) : Type 0 where
  pub judged : IsJudgedWith bytes context held (Refused r.code r.slot)
  pub why : IsWhy bytes judged.decl judged.rows (string_bytes r.sentence)

-- and the slot is one of theirs
abbrev pub IsRefusedAs : List ℕ → (context held : ℕ) → Refusal → Type 0
IsRefusedAs bytes context held r = IsRefusal bytes context held r × (r.given ≡ Some r.slot)

-- what is declared is in range, or a number is out of it
abbrev pub IsInRange : (context held : ℕ) → Type 0
IsInRange context held = (context ≤ 4096) × (held ≤ 64)

abbrev pub IsOutOfRange : (context held : ℕ) → Type 0
IsOutOfRange context held = (4096 < context) ⊎ (64 < held)

-- why bytes are not loaded, by what holds of how they are refused: memory is asked for only where what is declared is in range
abbrev pub IsFaultBy : (Refusal → Type 0) → (context held : ℕ) → LoadFault → Type 0
IsFaultBy refuses context held (fault.Refused r) = refuses r
IsFaultBy refuses context held fault.Declaration = IsOutOfRange context held
IsFaultBy refuses context held fault.NoMemory = IsInRange context held

abbrev pub IsLoadFault : List ℕ → (context held : ℕ) → LoadFault → Type 0
IsLoadFault bytes context held = IsFaultBy (IsRefusedAs bytes context held) context held
