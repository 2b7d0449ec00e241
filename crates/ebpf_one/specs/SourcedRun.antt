-- The response of `one` by what its input is: of an object file the run of the function that is asked for, with the lines of C between its steps
-- where they are asked for.
use Rattle.std.specs.Prelude.{◌≡◌, ◌≤◌, ◌<◌, ◌⊎◌, ◌/◌, ℕ, Bool, true, false, List, length}
use Rattle.ebpf_object_file.specs.declared.fault.FileFault.{FileFault}
use Rattle.ebpf_object_file.specs.declared.function.Function.{Function}
use Rattle.ebpf_object_file.specs.declared.lines.Lines.{Lines}
use Rattle.ebpf_object_file.specs.declared.object_fault.ObjectFault.{ObjectFault}
use Rattle.ebpf_object_file.specs.declared.object_fault.ObjectFault.TheVariants.{File}
use Rattle.ebpf_object_file.specs.Function.{IsWanted}
use Rattle.ebpf_object_file.specs.Shown.{AreHolding}
use Rattle.ebpf_object_file.specs.Source.{AreLinesOf, HasNoLinesOf, IsLinesOfFault}
use Rattle.ebpf_command.specs.Response.{Response, refused_response}
use Rattle.ebpf_command.specs.Writing.{Responding}
use Rattle.ebpf_input.specs.declared.ask.Ask.{Ask}
use Rattle.ebpf_input.specs.declared.ask.Input.{Input}
use Rattle.ebpf_input.specs.declared.ask.Input.TheVariants.{Program, Object}
use Rattle.ebpf_input.specs.declared.form.Form.TheVariants.{Raw}
use Rattle.ebpf_input.specs.ObjectText.{IsTakenFault, RespondsObjectOr, object_fault_lines}
use Rattle.ebpf_one.specs.declared.headed.Headed.{Headed}
use Rattle.ebpf_one.specs.declared.how.How.{How}
use Rattle.ebpf_one.specs.OneText.{OneTo, OneWithData}
use Rattle.ebpf_one.specs.Steps.{with_source}

-- the function's slots are run with the line that holds at each of them
pub record OneLined (ask : Ask) (how : How) (f : Function) (l : Lines) (response : Response) : Type 0 where
  pub source : Headed
  pub lines : source.lines ≡ l
  pub whole : length source.holding.now ≡ length f.code.now / 8
  pub are : AreHolding l f.place.from source.holding.now
  pub told : OneTo ask (with_source how source) Raw f.code.now response

-- the file says nothing of the function's lines, or says what they are, or its lines can't be read
abbrev pub OneFunction : Ask → How → List ℕ → Function → Response → Type 0
OneFunction ask how file f response =
    (HasNoLinesOf file f.place.section × OneTo ask how Raw f.code.now response)
    ⊎ ((l : Lines) × AreLinesOf file f.place.section l × OneLined ask how f l response)
    ⊎ ((e : FileFault) × IsLinesOfFault file f.place.section e × (response ≡ refused_response (object_fault_lines ask.format (File e))))

-- the file is too long, which is said of it, or has the function that is asked for, or that one reads data, or there is none
abbrev pub OneSourced : Ask → How → List ℕ → Responding
OneSourced ask how name file response =
    ((1048576 < length file) × OneTo ask how Raw file response)
    ⊎ ((length file ≤ 1048576) × (f : Function) × IsWanted file name f × OneFunction ask how file f response)
    ⊎ ((e : ObjectFault) × IsTakenFault name file e × OneWithData ask how name file e response)

-- whether the lines are asked for
abbrev pub OneObject : Ask → How → Bool → List ℕ → Responding
OneObject ask how true name = OneSourced ask how name
OneObject ask how false name = RespondsObjectOr (OneWithData ask how) (OneTo ask how Raw) name

-- by what the input is
abbrev pub OneBy : Ask → How → Input → Bool → Responding
OneBy ask how (Program form) lines = OneTo ask how form
OneBy ask how (Object name) lines = OneObject ask how lines name.now

abbrev pub OneInput : Ask → How → Responding
OneInput ask how = OneBy ask how ask.input how.lines
