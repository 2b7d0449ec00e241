-- What a command reads and writes, where the reader and the writer tell their bytes.
use Rattle.std.specs.Prelude.{◌≡◌, ◌≢◌, ◌≤◌, ℕ, List, ◌++◌, length, take, Option, Result, Ok, Err, IfOk, IfErr, IfSome}
use Rattle.std.specs.Borrow.{Bor}
use Rattle.std.specs.Fn.{Once, FnOnceReturnsAt}
use Rattle.std.specs.Io.KnownBytes.{Appends, Consumes}
use Rattle.ebpf_command.specs.declared.done.Done.{Done}
use Rattle.ebpf_command.specs.declared.done.EngineFault.{EngineFault}
use Rattle.ebpf_command.specs.declared.done.EngineFault.TheVariants.{Output}
use Rattle.ebpf_command.specs.Input.{read_of}
use Rattle.ebpf_command.specs.Response.{Response}

-- which responses a command may give to an input
abbrev pub Responding : Type 1
Responding = List ℕ → Response → Type 0

-- those that a function gives to what is read of the input
abbrev pub AnsweredBy : {F E : Type 0} → Once F (Bor (List ℕ) × Unit {0}) (Result Response E) → F → Responding
AnsweredBy g f input response = FnOnceReturnsAt g f (read_of input) (Ok response)

-- a beginning of a text is written
abbrev pub AppendsBeginning : Option (List ℕ) → Option (List ℕ) → List ℕ → Type 0
AppendsBeginning old new text = (n : ℕ) × (n ≤ length text) × Appends old new (take n text)

-- a text was written or waits to be, after what waited before
pub record Sends (old new : Option (List ℕ)) (waited waits text : List ℕ) : Type 0 where
  pub sent : List ℕ
  pub written : Appends old new sent
  pub all : sent ++ waits ≡ waited ++ text

-- or a write failed: then a beginning of what waited and of the text was written
abbrev pub Puts : (old new : Option (List ℕ)) → (waited waits text : List ℕ) → Result (Unit {0}) EngineFault → Type 0
Puts old new waited waits text (Ok done) = Sends old new waited waits text
Puts old new waited waits text (Err fault) = (fault ≡ Output) × AppendsBeginning old new (waited ++ text)

-- where a command ends, it wrote the text of a response to the input, and ends as the response says
abbrev pub Writes : Responding → (input old new : Option (List ℕ)) → Result Done EngineFault → Type 0
Writes Responds input old new result =
    IfOk result (λ done. IfSome input (λ all. (response : Response) × Responds all response × (response.done ≡ done) × Appends old new response.text))

-- where it could not write, it wrote a beginning of that text
abbrev pub WritesBeginning : Responding → (input old new : Option (List ℕ)) → Result Done EngineFault → Type 0
WritesBeginning Responds input old new result =
    IfErr result (λ fault. IfSome input (λ all. fault ≡ Output → (response : Response) × Responds all response × AppendsBeginning old new response.text))

-- where it ends, what is read of the input is gone from the reader, and nothing after it
abbrev pub Reads : (old new : Option (List ℕ)) → Result Done EngineFault → Type 0
Reads old new result = IfOk result (λ done. IfSome old (λ input. Consumes old new (read_of input)))

-- a response was written, or a beginning of it where a write failed
abbrev pub IsWritten : Response → (old new : Option (List ℕ)) → Result Done EngineFault → Type 0
IsWritten response old new (Ok done) = (done ≡ response.done) × Appends old new response.text
IsWritten response old new (Err fault) = (fault ≡ Output) × AppendsBeginning old new response.text

-- What a command does: it writes the text of a response to the input and nothing else, and reads the input and nothing after it; where it
-- could not write, it wrote a beginning of that text, and on any other fault nothing, so that the writer is as it was.
pub record Performs {V : Type 0} (Responds : Responding) (input rest old new : Option (List ℕ)) (was is : V) (result : Result Done EngineFault) : Type 0 where
  pub response : Writes Responds input old new result
  pub consumed : Reads input rest result
  pub beginning : WritesBeginning Responds input old new result
  pub untouched : IfErr result (λ fault. fault ≢ Output → is ≡ was)
