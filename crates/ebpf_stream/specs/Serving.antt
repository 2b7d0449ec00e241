-- What `stream` writes and reads, over its two inputs.
use Rattle.std.specs.Prelude.{◌⊎◌, ℕ, List, Option, Result, Ok, IfSome}
use Rattle.std.specs.Io.KnownBytes.{Appends}
use Rattle.ebpf_command.specs.declared.done.Done.{Done}
use Rattle.ebpf_command.specs.declared.done.EngineFault.{EngineFault}
use Rattle.ebpf_command.specs.declared.format.Format.{Format}
use Rattle.ebpf_command.specs.Response.{Response}
use Rattle.ebpf_command.specs.Writing.{Responding, Writes, WritesBeginning}
use Rattle.ebpf_reader.specs.ParsedScript.{ParsedScript}
use Rattle.ebpf_report.specs.ScriptText.{RespondsScript}
use Rattle.ebpf_stream.specs.Streaming.{DoesStream, DoesFirst, RespondsStream, RespondsFirst, RespondsPart}

-- the text of a response to the script and the stream is written
abbrev pub WritesStream : Format → (script input old new : Option (List ℕ)) → Result Done EngineFault → Type 0
WritesStream format script input old new result = IfSome script (λ text. Writes (RespondsStream format text) input old new result)

-- where a write fails, a beginning of such a text, or of one to the first lines of the stream
abbrev pub WritesPart : Format → (script input old new : Option (List ℕ)) → Result Done EngineFault → Type 0
WritesPart format script input old new result = IfSome script (λ text. WritesBeginning (RespondsPart format text) input old new result)

-- all of the text of a response to the first lines
abbrev pub WritesFirst : Format → (script input old new : Option (List ℕ)) → Type 0
WritesFirst format script input old new =
    IfSome script (λ text. IfSome input (λ all. (response : Response) × RespondsFirst format text all response × Appends old new response.text))

-- ---- the same, where the script is read

abbrev pub RespondsTo : Format → ParsedScript → Responding
RespondsTo format parsed input response = RespondsScript format (DoesStream format input) (Ok parsed) response

abbrev pub RespondsFirstTo : Format → ParsedScript → Responding
RespondsFirstTo format parsed input response = RespondsScript format (DoesFirst format input) (Ok parsed) response

abbrev pub RespondsPartTo : Format → ParsedScript → Responding
RespondsPartTo format parsed input response = RespondsTo format parsed input response ⊎ RespondsFirstTo format parsed input response

abbrev pub WritesFirstTo : Format → ParsedScript → (input old new : Option (List ℕ)) → Type 0
WritesFirstTo format parsed input old new = IfSome input (λ all. (response : Response) × RespondsFirstTo format parsed all response × Appends old new response.text)
