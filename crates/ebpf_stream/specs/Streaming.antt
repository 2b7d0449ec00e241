-- The response of `stream` to a script and a stream: the fault of the script, or the verdict on each program and then, where none is
-- refused, what each line is answered and what the caches and shelves did.
use Rattle.std.specs.Prelude.{◌≡◌, ◌⊎◌, ℕ, ◌++◌, Bool, true, false, List, take}
use Rattle.ebpf_command.specs.declared.done.Done.{Done}
use Rattle.ebpf_command.specs.declared.done.Done.TheVariants.{Clean, Refused}
use Rattle.ebpf_command.specs.declared.format.Format.{Format}
use Rattle.ebpf_command.specs.Writing.{Responding}
use Rattle.ebpf_reader.specs.declared.script.Dialect.TheVariants.{Setup}
use Rattle.ebpf_reader.specs.ParsedScript.{ParsedScript}
use Rattle.ebpf_reader.specs.Scripts.{parsed_text}
use Rattle.ebpf_reader.specs.ScriptLines.{script_lines}
use Rattle.ebpf_report.specs.ScriptText.{Doing, RespondsScript}
use Rattle.ebpf_report.specs.Verdicts.{Verdict, verdict_lines, accepted_of}
use Rattle.ebpf_stream.specs.declared.totals.MachineTotals.{MachineTotals}
use Rattle.ebpf_stream.specs.Answering.{Setting, Position, AreAnswered, start}
use Rattle.ebpf_stream.specs.Totals.{TellAllLeft, totals_in}

abbrev pub setting_of : Format → ParsedScript → List Verdict → Setting
setting_of format parsed verdicts = record { format = format; parsed = parsed; subjects = accepted_of verdicts }

-- by whether a line could not be read
abbrev pub done_by : Bool → Done
done_by true = Refused
done_by false = Clean

-- a text answers the first n lines of a stream, for some n
abbrev pub AnswersFirst : Setting → List ℕ → List ℕ → Type 0
AnswersFirst s input text = (n : ℕ) × (after : Position) × AreAnswered s (take n (script_lines input)) start after text

-- it answers each line of a stream, and then its end
abbrev pub AnswersAll : Setting → List ℕ → Position → List ℕ → Type 0
AnswersAll s input after text =
    (lines : List ℕ) × (totals : MachineTotals) × AreAnswered s (script_lines input) start after lines × TellAllLeft after.shelves totals
    × (text ≡ lines ++ totals_in s.format totals)

-- after the verdicts a stream is answered
abbrev pub DoesStream : Format → List ℕ → Doing
DoesStream format input parsed verdicts response =
    (after : Position) × (text : List ℕ) × AnswersAll (setting_of format parsed verdicts) input after text
    × (response ≡ record { text = verdict_lines format verdicts ++ text; done = done_by after.faulty })

-- or only its first lines
abbrev pub DoesFirst : Format → List ℕ → Doing
DoesFirst format input parsed verdicts response =
    (text : List ℕ) × AnswersFirst (setting_of format parsed verdicts) input text × (response.text ≡ verdict_lines format verdicts ++ text)

-- to all of a stream
abbrev pub RespondsStream : Format → List ℕ → Responding
RespondsStream format script input response = RespondsScript format (DoesStream format input) (parsed_text Setup script) response

-- to its first lines
abbrev pub RespondsFirst : Format → List ℕ → Responding
RespondsFirst format script input response = RespondsScript format (DoesFirst format input) (parsed_text Setup script) response

-- to either
abbrev pub RespondsPart : Format → List ℕ → Responding
RespondsPart format script input response = RespondsStream format script input response ⊎ RespondsFirst format script input response
