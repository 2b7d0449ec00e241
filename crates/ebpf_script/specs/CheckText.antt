-- The response of `check` to a text: the fault of the script, or the verdict on each program. Where that is asked for, each has its sentence.
use Rattle.std.specs.Prelude.{◌≡◌, ℕ, ◌++◌, Bool, cond, List, [], Result, Ok, Err}
use Rattle.ebpf_command.specs.declared.done.FaultCode.{FaultCode}
use Rattle.ebpf_command.specs.declared.format.Format.{Format}
use Rattle.ebpf_command.specs.declared.format.Format.TheVariants.{Text, Json}
use Rattle.ebpf_command.specs.Json.{fault_object}
use Rattle.ebpf_command.specs.Lines.{fault_line}
use Rattle.ebpf_command.specs.Response.{Response, refused_response}
use Rattle.ebpf_command.specs.Writing.{Responding}
use Rattle.ebpf_reader.specs.declared.script.Dialect.TheVariants.{Jobs}
use Rattle.ebpf_reader.specs.ParsedScript.{ParsedScript}
use Rattle.ebpf_reader.specs.Scripts.{parsed_text}
use Rattle.ebpf_report.specs.Explained.{Explained, explained_lines, verdicts_of}
use Rattle.ebpf_report.specs.Verdicts.{AreOn, is_any_refused, answered}
use Rattle.ebpf_script.specs.ScriptFaults.{script_fault_sentence}

-- a fault in a format, and its sentence
abbrev pub fault_in_format : Format → FaultCode → ℕ → (why : List ℕ) → List ℕ
fault_in_format Text code line why = fault_line code line ++ why
fault_in_format Json code line why = fault_object code line why

abbrev pub fault_response : Bool → Format → ℕ → FaultCode → (text : List ℕ) → Response
fault_response explains format line code text = refused_response (fault_in_format format code line (cond explains (script_fault_sentence text line code) []))

-- the verdicts on the programs of a script
abbrev pub ChecksScript : Bool → Format → ParsedScript → Response → Type 0
ChecksScript explains format parsed response =
    (explained : List (Explained explains)) × AreOn parsed.programs (verdicts_of explained)
    × (response ≡ answered (explained_lines format explained) (is_any_refused (verdicts_of explained)))

abbrev pub ChecksParsed : Bool → Format → Result ParsedScript (ℕ × FaultCode) → List ℕ → Response → Type 0
ChecksParsed explains format (Err fault) text response = response ≡ fault_response explains format fault.0 fault.1 text
ChecksParsed explains format (Ok parsed) text response = ChecksScript explains format parsed response

abbrev pub RespondsCheck : Bool → Format → Responding
RespondsCheck explains format text response = ChecksParsed explains format (parsed_text Jobs text) text response
