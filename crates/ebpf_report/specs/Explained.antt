-- The verdicts on the programs of a script, each with why the program is refused.
use Rattle.std.specs.Prelude.{◌≡◌, ℕ, Bool, true, false, List, [], map}
use Rattle.std.specs.List.{flat_map}
use Rattle.ebpf_state.specs.declared.kinds.KindRow.{KindRow}
use Rattle.ebpf_verify.specs.declared.decl.Decl.{Decl}
use Rattle.ebpf_command.specs.declared.format.Format.{Format}
use Rattle.ebpf_command.specs.declared.judge.Judged.{Judged}
use Rattle.ebpf_command.specs.declared.judge.Judged.TheVariants.{Accepted, Refused}
use Rattle.ebpf_explain.specs.Why.{IsWhy}
use Rattle.ebpf_report.specs.Verdicts.{Verdict, verdict_in}

-- the sentence that says why, where that is asked for; of a program that is accepted there is none
abbrev pub IsTold : Bool → Judged → List ℕ → Decl → List KindRow → List ℕ → Type 0
IsTold true (Accepted s) bytes decl rows why = why ≡ []
IsTold true (Refused code slot) bytes decl rows why = IsWhy bytes decl rows why
IsTold false judged bytes decl rows why = why ≡ []

-- a verdict, and what is said beside it
pub record Explained (asked : Bool) : Type 0 where
  pub verdict : Verdict
  pub why : List ℕ
  pub is : IsTold asked verdict.judged verdict.program.bytes verdict.decl verdict.rows why

-- each verdict, and what is said beside it
abbrev pub explained_lines : {asked : Bool} → Format → List (Explained asked) → List ℕ
explained_lines format explained = flat_map (λ e. verdict_in format e.verdict.program.name e.verdict.judged e.why) explained

abbrev pub verdicts_of : {asked : Bool} → List (Explained asked) → List Verdict
verdicts_of explained = map (λ e. e.verdict) explained
