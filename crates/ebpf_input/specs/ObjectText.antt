-- The response of a command to an object file: its response to the slots of the function that is asked for, as raw bytes, or why the file
-- has no such program.
use Rattle.std.specs.Prelude.{◌≡◌, ◌≤◌, ◌<◌, ◌⊎◌, ℕ, ◌++◌, List, [], length, codes, Option, Some, None, Result}
use Rattle.ebpf_object_file.specs.declared.function.Function.{Function}
use Rattle.ebpf_object_file.specs.declared.holding_line.HoldingLine.{HoldingLine}
use Rattle.ebpf_object_file.specs.declared.object_fault.ObjectFault.{ObjectFault}
use Rattle.ebpf_object_file.specs.declared.object_fault.ObjectFault.TheVariants as object
use Rattle.ebpf_object_file.specs.Function.{IsWanted, IsWantedFault}
use Rattle.ebpf_object_file.specs.Sentences.{object_code, object_sentence}
use Rattle.ebpf_object_file.specs.HoldingLine.{IsHoldingLine}
use Rattle.ebpf_object_file.specs.Source.{HasNoTables}
use Rattle.ebpf_command.specs.declared.done.Done.{Done}
use Rattle.ebpf_command.specs.declared.done.EngineFault.{EngineFault}
use Rattle.ebpf_command.specs.declared.format.Format.{Format}
use Rattle.ebpf_command.specs.declared.format.Format.TheVariants.{Text, Json}
use Rattle.ebpf_command.specs.Json.{why_member}
use Rattle.ebpf_command.specs.Response.{Response, refused_response}
use Rattle.ebpf_command.specs.Writing.{Responding, Writes, WritesBeginning}
use Rattle.ebpf_input.specs.declared.ask.Input.{Input}
use Rattle.ebpf_input.specs.declared.ask.Input.TheVariants.{Program, Object}
use Rattle.ebpf_input.specs.declared.form.Form.{Form}
use Rattle.ebpf_input.specs.declared.form.Form.TheVariants.{Raw}
use Rattle.ebpf_input.specs.Formats.{place_in}

-- the slots that are asked for; a file that is too long is taken as it is, since each command reports that first
abbrev pub IsTaken : List ℕ → List ℕ → List ℕ → Type 0
IsTaken name file bytes =
    ((1048576 < length file) × (bytes ≡ file))
    ⊎ ((length file ≤ 1048576) × (f : Function) × IsWanted file name f × (bytes ≡ f.code.now))

-- why none are
abbrev pub IsTakenFault : List ℕ → List ℕ → ObjectFault → Type 0
IsTakenFault name file e = (length file ≤ 1048576) × IsWantedFault file name e

-- the line of a fault by its code, and under it the line that says why
abbrev pub fault_lines : Format → (code why : List ℕ) → List ℕ
fault_lines Text code why = codes "fault " ++ (code ++ (codes " line 0\n" ++ why))
fault_lines Json code why = codes "{\"fault\":\"" ++ (code ++ (codes "\",\"line\":0" ++ (why_member why ++ codes "}\n")))

-- the line of an object file's fault, and its sentence
abbrev pub object_fault_lines : Format → ObjectFault → List ℕ
object_fault_lines format e = fault_lines format (object_code e) (codes "  " ++ (object_sentence e ++ codes "\n"))

-- a line of C that holds at a slot, if there is one
abbrev pub holding_in : Format → Option HoldingLine → List ℕ
holding_in format None = []
holding_in format (Some h) = place_in format h.lines h.line

-- Under the sentence of a slot is the line of C that holds there, where the file has lines that can be read. Nothing is under a fault
-- that has no slot.
abbrev pub IsUnder : Format → (file : List ℕ) → ObjectFault → List ℕ → Type 0
IsUnder format file (object.Outside o) under =
    (holding : Option HoldingLine) × IsHoldingLine file o.place o.at holding × (under ≡ holding_in format holding)
IsUnder format file _ under = under ≡ []

-- the response to a file that has no such program
pub record RespondsFault (format : Format) (file : List ℕ) (e : ObjectFault) (response : Response) : Type 0 where
  pub under : List ℕ
  pub is_under : IsUnder format file e under
  pub told : response ≡ refused_response (object_fault_lines format e ++ under)

-- what a command says of a name and a file where the function is no program by itself
abbrev pub Refusing : Type 1
Refusing = (name file : List ℕ) → ObjectFault → Response → Type 0

abbrev pub RespondsFaults : Format → Refusing
RespondsFaults format name file e response = RespondsFault format file e response

-- by a command's response to raw bytes, and what it says otherwise
abbrev pub RespondsObjectOr : Refusing → Responding → List ℕ → Responding
RespondsObjectOr Refuses Sends name file response =
    ((bytes : List ℕ) × IsTaken name file bytes × Sends bytes response)
    ⊎ ((e : ObjectFault) × IsTakenFault name file e × Refuses name file e response)

abbrev pub RespondsObject : Format → Responding → List ℕ → Responding
RespondsObject format Sends = RespondsObjectOr (RespondsFaults format) Sends

-- by what the input is: a program is responded to as it is
abbrev pub RespondsInputOr : Refusing → Input → (Form → Responding) → Responding
RespondsInputOr Refuses (Program form) Sends = Sends form
RespondsInputOr Refuses (Object name) Sends = RespondsObjectOr Refuses (Sends Raw) name.now

abbrev pub RespondsInput : Format → Input → (Form → Responding) → Responding
RespondsInput format input Sends = RespondsInputOr (RespondsFaults format) input Sends

-- a command that knows lines of C writes of a file without them what another does, which knows none
pub record WritesAnswer (Sends : Responding) (input old new : Option (List ℕ)) (result : Result Done EngineFault) : Type 0 where
  pub response : Writes Sends input old new result
  pub beginning : WritesBeginning Sends input old new result

abbrev pub WritesPlain : Refusing → Responding → List ℕ → (input old new : Option (List ℕ)) → Result Done EngineFault → Type 0
WritesPlain Refuses Sends name input old new result =
    (file : List ℕ) → input ≡ Some file → HasNoTables file → WritesAnswer (RespondsObjectOr Refuses Sends name) input old new result

-- nothing is said of a program: it has no lines
abbrev pub WritesInputPlain : Refusing → Responding → Input → (input old new : Option (List ℕ)) → Result Done EngineFault → Type 0
WritesInputPlain Refuses Sends (Program form) input old new result = Unit {0}
WritesInputPlain Refuses Sends (Object name) input old new result = WritesPlain Refuses Sends name.now input old new result
