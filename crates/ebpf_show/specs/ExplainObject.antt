-- The response of `explain` to an object file: that to the slots of the function that is asked for, or to what they are linked to with the
-- data that they read, with the function's lines of C where the file has them.
use Rattle.std.specs.Prelude.{◌≡◌, ◌≤◌, ◌<◌, ◌⊎◌, ◌/◌, ℕ, Bool, true, false, List, length, Option, Some, None, string_bytes}
use Rattle.ebpf_object_file.specs.declared.fault.FileFault.{FileFault}
use Rattle.ebpf_object_file.specs.declared.function.Function.{Function}
use Rattle.ebpf_object_file.specs.declared.lines.Lines.{Lines}
use Rattle.ebpf_object_file.specs.declared.object_fault.ObjectFault.{ObjectFault}
use Rattle.ebpf_object_file.specs.declared.object_fault.ObjectFault.TheVariants.{File}
use Rattle.ebpf_object_file.specs.Function.{IsWanted}
use Rattle.ebpf_object_file.specs.Shown.{AreHolding}
use Rattle.ebpf_object_file.specs.Source.{AreLinesOf, HasNoLinesOf, IsLinesOfFault}
use Rattle.ebpf_command.specs.declared.format.Format.{Format}
use Rattle.ebpf_command.specs.Response.{Response, refused_response}
use Rattle.ebpf_command.specs.Writing.{Responding}
use Rattle.ebpf_input.specs.declared.ask.Ask.{Ask}
use Rattle.ebpf_input.specs.declared.ask.Input.{Input}
use Rattle.ebpf_input.specs.declared.ask.Input.TheVariants.{Program, Object}
use Rattle.ebpf_input.specs.declared.data_request.DataRequest.{DataRequest}
use Rattle.ebpf_input.specs.declared.form.Form.TheVariants.{Raw}
use Rattle.ebpf_input.specs.declared.request.Request.{Request}
use Rattle.ebpf_input.specs.Asked.{Asked}
use Rattle.ebpf_input.specs.DataRequest.{RespondsData}
use Rattle.ebpf_input.specs.NoRequest.{RespondsNoRequest}
use Rattle.ebpf_input.specs.ObjectText.{Refusing, IsTakenFault, object_fault_lines}
use Rattle.ebpf_show.specs.declared.explain_object.Code.{Code}
use Rattle.ebpf_show.specs.declared.explain_object.Code.TheVariants.{Own, Linked}
use Rattle.ebpf_show.specs.declared.explain_object.Detail.{Detail}
use Rattle.ebpf_show.specs.declared.explain_object.LinkedCode.{LinkedCode}
use Rattle.ebpf_show.specs.declared.shown.Shown.{Shown}
use Rattle.ebpf_show.specs.declared.sourced.Sourced.{Sourced}
use Rattle.ebpf_show.specs.Copies.{linked_slots}
use Rattle.ebpf_show.specs.DataRows.{AreDataRows, after_rows}
use Rattle.ebpf_show.specs.Shown.{ExplainsTo, ExplainsWith, IsCopiedShown, ShowsBytes, states_of}

-- the context of a linked program has as many bytes as are declared
abbrev pub IsWholeRequest : Request → Type 0
IsWholeRequest r = r.decl.context ≡ length r.context.items

abbrev pub IsWhole : Code → Type 0
IsWhole (Own bytes) = Unit {0}
IsWhole (Linked l) = IsWholeRequest l.request

abbrev pub asked_in : Request → Asked
asked_in r = record { bytes = r.bytes.items; context = r.context.items; held = r.decl.held }

-- a linked program is shown with the function's own slots beside it, and with the lines of C that hold at them, after the rows of its data
abbrev pub ExplainsLinked : Format → Bool → LinkedCode → Option Sourced → Response → Type 0
ExplainsLinked format unroll l source response =
    (shown : Shown) × IsCopiedShown linked_slots (states_of format source) shown
    × (said : Response) × ShowsBytes unroll shown (asked_in l.request) said × (response ≡ after_rows (string_bytes l.rows) said)

abbrev pub ExplainsCode : Ask → Bool → Code → Option Sourced → Response → Type 0
ExplainsCode ask unroll (Own bytes) source response = ExplainsWith ask.format unroll source Raw ask.context.now ask.held bytes.now response
ExplainsCode ask unroll (Linked l) source response = ExplainsLinked ask.format unroll l source response

-- it is explained with the line that holds at each slot of the function
pub record ExplainsLined (ask : Ask) (d : Detail) (l : Lines) (f : Function) (code : Code) (response : Response) : Type 0 where
  pub source : Sourced
  pub asked : source.listed ≡ d.lines
  pub same : source.lines ≡ l
  pub whole : length source.holding.now ≡ length f.code.now / 8
  pub are : AreHolding l f.place.from source.holding.now
  pub told : ExplainsCode ask d.unroll code (Some source) response

-- the lines can't be read, which is a fault where they are to be listed
abbrev pub ExplainsUnreadBy : (lines unroll : Bool) → Ask → FileFault → Code → Response → Type 0
ExplainsUnreadBy true unroll ask e code response = response ≡ refused_response (object_fault_lines ask.format (File e))
ExplainsUnreadBy false unroll ask e code response = ExplainsCode ask unroll code None response

abbrev pub ExplainsUnread : Ask → Detail → FileFault → Code → Response → Type 0
ExplainsUnread ask d = ExplainsUnreadBy d.lines d.unroll ask

-- the file says what the function's lines are, or says nothing of them, or they can't be read
abbrev pub ExplainsFunction : Ask → Detail → List ℕ → Function → Code → Response → Type 0
ExplainsFunction ask d file f code response =
    ((l : Lines) × AreLinesOf file f.place.section l × ExplainsLined ask d l f code response)
    ⊎ (HasNoLinesOf file f.place.section × ExplainsCode ask d.unroll code None response)
    ⊎ ((e : FileFault) × IsLinesOfFault file f.place.section e × ExplainsUnread ask d e code response)

-- the response to a function that was linked with data of its file
abbrev pub ExplainsRequest : Ask → Detail → List ℕ → DataRequest → Response → Type 0
ExplainsRequest ask d file r response =
    (l : LinkedCode) × (l.request ≡ r.request) × AreDataRows ask.format r (string_bytes l.rows)
    × ExplainsFunction ask d file r.function.function (Linked l) response

-- the response to a function that reads data of its file
abbrev pub ExplainsWithData : Ask → Detail → Refusing
ExplainsWithData ask d name file = RespondsData ask (ExplainsRequest ask d file) (RespondsNoRequest ask) name file

-- the file is too long, which `explain` says of it, or has the function that is asked for, or that one is no program by itself
abbrev pub ExplainsObject : Ask → Detail → List ℕ → Responding
ExplainsObject ask d name file response =
    ((1048576 < length file) × ExplainsTo ask.format d.unroll Raw ask.context.now ask.held file response)
    ⊎ ((length file ≤ 1048576) × (f : Function) × IsWanted file name f × ExplainsFunction ask d file f (Own f.code) response)
    ⊎ ((e : ObjectFault) × IsTakenFault name file e × ExplainsWithData ask d name file e response)

-- the response of `explain` by what the input is, and in what detail
abbrev pub ExplainsBy : Ask → Detail → Input → Responding
ExplainsBy ask d (Program form) = ExplainsTo ask.format d.unroll form ask.context.now ask.held
ExplainsBy ask d (Object name) = ExplainsObject ask d name.now

abbrev pub ExplainsInput : Ask → Detail → Responding
ExplainsInput ask d = ExplainsBy ask d ask.input
