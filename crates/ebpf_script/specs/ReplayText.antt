-- The response of `replay` to a text: the fault of the script, or the verdict on each program and then, where none is refused,
-- the world after the events.
use Rattle.std.specs.Prelude.{◌≡◌, ℕ, ◌++◌, List, Result, Ok, Err, codes, decimal}
use Rattle.ebpf_machine.specs.World.{World}
use Rattle.ebpf_machine.specs.Events.{Illegal}
use Rattle.ebpf_core.specs.declared.fault.ApplyCode.{ApplyCode}
use Rattle.ebpf_core.specs.Faults.{code_of}
use Rattle.ebpf_core.specs.Replay.{world_after}
use Rattle.ebpf_command.specs.declared.format.Format.{Format}
use Rattle.ebpf_command.specs.declared.format.Format.TheVariants.{Text, Json}
use Rattle.ebpf_command.specs.Response.{Response, refused_response, clean_response}
use Rattle.ebpf_command.specs.Writing.{Responding}
use Rattle.ebpf_reader.specs.declared.script.Dialect.TheVariants.{Events}
use Rattle.ebpf_reader.specs.Scripts.{parsed_text}
use Rattle.ebpf_report.specs.ScriptText.{Doing, RespondsScript}
use Rattle.ebpf_report.specs.Verdicts.{verdict_lines, accepted_of}
use Rattle.ebpf_report.specs.WorldText.{world_in}
use Rattle.ebpf_script.specs.EventCodes.{apply_name}

-- an event is not legal, for this cause; events count from 0
abbrev pub stopped_line : ℕ → ApplyCode → List ℕ
stopped_line index code = codes "stopped " ++ (apply_name code ++ (codes " " ++ (decimal index ++ codes "\n")))

abbrev pub stopped_object : ℕ → ApplyCode → List ℕ
stopped_object index code = codes "{\"stopped\":\"" ++ (apply_name code ++ (codes "\",\"event\":" ++ (decimal index ++ codes "}\n")))

abbrev pub stopped_in : Format → ℕ → ApplyCode → List ℕ
stopped_in Text index code = stopped_line index code
stopped_in Json index code = stopped_object index code

-- after the verdicts, the world after the events, or where they stop
abbrev pub world_response : Format → List ℕ → Result World (ℕ × Illegal) → Response
world_response format verdicts (Ok w) = clean_response (verdicts ++ world_in format w)
world_response format verdicts (Err stop) = refused_response (verdicts ++ stopped_in format stop.0 (code_of stop.1))

abbrev pub DoesReplay : Format → Doing
DoesReplay format parsed verdicts response = response ≡ world_response format (verdict_lines format verdicts) (world_after (accepted_of verdicts) parsed.events)

abbrev pub RespondsReplay : Format → Responding
RespondsReplay format text response = RespondsScript format (DoesReplay format) (parsed_text Events text) response
