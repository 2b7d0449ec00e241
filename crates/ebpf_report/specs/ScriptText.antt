-- The response of a command over scripts to what a text is parsed to.
use Rattle.std.specs.Prelude.{◌≡◌, ℕ, Bool, true, false, List, Result, Ok, Err}
use Rattle.ebpf_command.specs.declared.done.FaultCode.{FaultCode}
use Rattle.ebpf_command.specs.declared.format.Format.{Format}
use Rattle.ebpf_command.specs.Json.{fault_in}
use Rattle.ebpf_command.specs.Response.{Response, refused_response}
use Rattle.ebpf_reader.specs.ParsedScript.{ParsedScript}
use Rattle.ebpf_report.specs.Verdicts.{Verdict, AreOn, verdict_lines, is_any_refused}

-- which responses a command may give to a script and the verdicts on its programs, where none is refused
abbrev pub Doing : Type 1
Doing = ParsedScript → List Verdict → Response → Type 0

-- the verdicts alone where a program is refused, or else what the command does
abbrev pub RespondsUnless : Format → Bool → List Verdict → (Response → Type 0) → Response → Type 0
RespondsUnless format true verdicts Does response = response ≡ refused_response (verdict_lines format verdicts)
RespondsUnless format false verdicts Does response = Does response

-- the line of a fault alone, or else the verdicts, and what the command does
abbrev pub RespondsScript : Format → Doing → Result ParsedScript (ℕ × FaultCode) → Response → Type 0
RespondsScript format Does (Err fault) response = response ≡ refused_response (fault_in format fault.1 fault.0)
RespondsScript format Does (Ok parsed) response =
    (verdicts : List Verdict) × AreOn parsed.programs verdicts × RespondsUnless format (is_any_refused verdicts) verdicts (Does parsed verdicts) response
