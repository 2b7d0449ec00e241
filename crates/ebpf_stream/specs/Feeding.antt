-- How far a stream of jobs has been answered, after some of its bytes.
use Rattle.std.specs.Prelude.{◌≡◌, ◌⊎◌, ℕ, ◌==◌, ◌++◌, false, List, [], map, take, Option, Result, Ok, Err, IfSome, string_bytes}
use Rattle.std.specs.List.{All}
use Rattle.std.specs.Io.KnownBytes.{Appends}
use Rattle.ebpf_command.specs.declared.done.EngineFault.{EngineFault}
use Rattle.ebpf_command.specs.declared.done.EngineFault.TheVariants.{Input, Output, NoMemory}
use Rattle.ebpf_command.specs.Writing.{AppendsBeginning, Sends}
use Rattle.ebpf_reader.specs.ReadScripts.{parsed_script}
use Rattle.ebpf_reader.specs.ScriptLines.{script_lines}
use Rattle.ebpf_stream.specs.declared.feed.Feed.{Feed}
use Rattle.ebpf_stream.specs.declared.setup.Setup.{Setup}
use Rattle.ebpf_stream.specs.Answering.{Setting, Position, AreAnswered, position_of, start}
use Rattle.ebpf_stream.specs.Streaming.{AnswersFirst, AnswersAll}

abbrev pub set_up : Setup → Setting
set_up s = record { format = s.format; parsed = parsed_script s.script; subjects = map (λ p. p.verified) s.programs.items }

-- these bytes were taken, and this text answers the lines that ended in them; of the next line at most 65,537 bytes are kept
pub record IsFed (s : Setting) (seen : List ℕ) (feed : Feed) (text : List ℕ) : Type 0 where
  pub lines : List (List ℕ)
  pub next : List ℕ
  pub split : (rest : List ℕ) → script_lines (seen ++ rest) ≡ lines ++ script_lines (next ++ rest)
  pub whole : All (λ c. (c == 10) ≡ false) next
  pub kept : feed.kept.items ≡ take 65537 next
  pub answered : AreAnswered s lines start (position_of feed.answers) text

-- the text answers the first lines of any stream that begins with these bytes
abbrev pub AnswersSome : Setting → (seen text : List ℕ) → Type 0
AnswersSome s seen text = (rest : List ℕ) → AnswersFirst s (seen ++ rest) text

-- where a write failed, a beginning of it was written
abbrev pub Stops : EngineFault → (old new : Option (List ℕ)) → (waited waits text : List ℕ) → Type 0
Stops Output old new waited waits text = AppendsBeginning old new (waited ++ text)
Stops Input old new waited waits text = Sends old new waited waits text
Stops NoMemory old new waited waits text = Sends old new waited waits text

-- all of these bytes were taken, or a fault came
abbrev pub Takes : Setting → (old new : Option (List ℕ)) → (before after : Feed) → List ℕ → Result (Unit {0}) EngineFault → Type 0
Takes s old new before after bytes (Ok done) = (seen text : List ℕ) → IsFed s seen before text
    → (more : List ℕ) × IsFed s (seen ++ bytes) after (text ++ more) × Sends old new (string_bytes before.answers.text) (string_bytes after.answers.text) more
Takes s old new before after bytes (Err fault) = (seen text : List ℕ) → IsFed s seen before text
    → (more : List ℕ) × AnswersSome s (seen ++ bytes) (text ++ more)
    × Stops fault old new (string_bytes before.answers.text) (string_bytes after.answers.text) more

-- all that was answered is written; where a write failed, a beginning of it
abbrev pub Leaves : EngineFault → (old new : Option (List ℕ)) → (text : List ℕ) → Type 0
Leaves Output old new text = AppendsBeginning old new text
Leaves Input old new text = Appends old new text
Leaves NoMemory old new text = Appends old new text

-- the same, and nothing waits after it
abbrev pub TakesAll : Setting → (old new : Option (List ℕ)) → (before after : Feed) → List ℕ → Result (Unit {0}) EngineFault → Type 0
TakesAll s old new before after bytes (Ok done) = (seen text : List ℕ) → IsFed s seen before text
    → (more : List ℕ) × IsFed s (seen ++ bytes) after (text ++ more) × Appends old new (string_bytes before.answers.text ++ more) × (string_bytes after.answers.text ≡ [])
TakesAll s old new before after bytes (Err fault) = (seen text : List ℕ) → IsFed s seen before text
    → (more : List ℕ) × AnswersSome s (seen ++ bytes) (text ++ more)
    × Leaves fault old new (string_bytes before.answers.text ++ more)

-- how far a stream is answered where a fault ends it
abbrev pub AnswersPart : EngineFault → Setting → List ℕ → List ℕ → Type 0
AnswersPart Output s input text = AnswersFirst s input text ⊎ ((after : Position) × AnswersAll s input after text)
AnswersPart Input s input text = AnswersFirst s input text
AnswersPart NoMemory s input text = AnswersFirst s input text

-- the last line and the end of a stream of these bytes are answered, after what was written already
abbrev pub Finishes : Setting → (old new : Option (List ℕ)) → (before after : Feed) → Result (Unit {0}) EngineFault → Type 0
Finishes s old new before after (Ok done) = (seen text : List ℕ) → IsFed s seen before text
    → (more : List ℕ) × AnswersAll s seen (position_of after.answers) (text ++ more) × Appends old new more
Finishes s old new before after (Err fault) = (seen text : List ℕ) → IsFed s seen before text
    → (more : List ℕ) × AnswersPart fault s seen (text ++ more) × Leaves fault old new more

-- a stream is answered, after what waited before
abbrev pub Serves : Setting → (input old new : Option (List ℕ)) → Position → (waited : List ℕ) → Result (Unit {0}) EngineFault → Type 0
Serves s input old new after waited (Ok done) =
    IfSome input (λ all. (text : List ℕ) × AnswersAll s all after text × Appends old new (waited ++ text))
Serves s input old new after waited (Err fault) =
    IfSome input (λ all. (text : List ℕ) × AnswersPart fault s all text × Leaves fault old new (waited ++ text))
