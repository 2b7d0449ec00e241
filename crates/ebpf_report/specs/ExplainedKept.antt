-- The explained verdicts that are kept.
use Rattle.std.specs.Prelude.{◌≡◌, ℕ, ◌++◌, ◌||◌, Bool, List, string_bytes}
use Rattle.ebpf_state.specs.declared.kinds.KindRow.{KindRow}
use Rattle.ebpf_verify.specs.declared.decl.Decl.{Decl}
use Rattle.ebpf_command.specs.declared.format.Format.{Format}
use Rattle.ebpf_command.specs.declared.judge.Judged.{Judged}
use Rattle.ebpf_command.specs.Judging.{IsJudged}
use Rattle.ebpf_reader.specs.ParsedScript.{Named}
use Rattle.ebpf_report.specs.declared.verdicts.Verdicts.{Verdicts}
use Rattle.ebpf_report.specs.Explained.{Explained, IsTold, explained_lines, verdicts_of}
use Rattle.ebpf_report.specs.Verdicts.{AreOn, accepted_of, is_any_refused, verdict_in, accepted_in, is_refused}

-- they are on these programs: their lines with what is said beside each, the programs that are accepted, and whether one is refused
pub record AreExplained (format : Format) (asked : Bool) (programs : List Named) (kept : Verdicts) : Type 0 where
  pub explained : List (Explained asked)
  pub on : AreOn programs (verdicts_of explained)
  pub text : string_bytes kept.text ≡ explained_lines format explained
  pub accepted : kept.accepted.items ≡ accepted_of (verdicts_of explained)
  pub refused : kept.refused ≡ is_any_refused (verdicts_of explained)

-- after the verdicts that were kept is one more, on a program of this name and these bytes
pub record IsOneMore (format : Format) (asked : Bool) (name bytes : List ℕ) (decl : Decl) (rows : List KindRow) (old new : Verdicts) : Type 0 where
  pub judged : Judged
  pub why : List ℕ
  pub is_judged : IsJudged bytes decl rows judged
  pub is_told : IsTold asked judged bytes decl rows why
  pub text : string_bytes new.text ≡ string_bytes old.text ++ verdict_in format name judged why
  pub accepted : new.accepted.items ≡ old.accepted.items ++ accepted_in judged
  pub refused : new.refused ≡ (old.refused || is_refused judged)
