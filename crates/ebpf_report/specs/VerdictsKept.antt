-- The verdicts that are kept.
use Rattle.std.specs.Prelude.{◌≡◌, List, string_bytes}
use Rattle.ebpf_command.specs.declared.format.Format.{Format}
use Rattle.ebpf_reader.specs.ParsedScript.{Named}
use Rattle.ebpf_report.specs.declared.verdicts.Verdicts.{Verdicts}
use Rattle.ebpf_report.specs.Verdicts.{Verdict, AreOn, verdict_lines, accepted_of, is_any_refused}

-- they are verdicts on these programs: their lines in this format, the programs that are accepted, and whether one is refused
pub record AreKept (format : Format) (programs : List Named) (kept : Verdicts) : Type 0 where
  pub verdicts : List Verdict
  pub on : AreOn programs verdicts
  pub text : string_bytes kept.text ≡ verdict_lines format verdicts
  pub accepted : kept.accepted.items ≡ accepted_of verdicts
  pub refused : kept.refused ≡ is_any_refused verdicts
