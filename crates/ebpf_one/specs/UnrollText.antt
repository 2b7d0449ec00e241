-- The response of `unroll` to its input, and of `one` where the loops are to be unrolled: the hex of the program with its loops unrolled or what its
-- run did, or why they can't be.
use Rattle.std.specs.Prelude.{◌≡◌, ◌≤◌, ◌<◌, ◌⊎◌, ◌/◌, ℕ, Bool, true, false, List, length, Option, Some, None}
use Rattle.ebpf_insn.specs.declared.fault.DecodeCode.{DecodeCode}
use Rattle.ebpf_insn.specs.declared.insn.Insn.{Insn}
use Rattle.ebpf_insn.specs.Decoding.{decode_fault}
use Rattle.ebpf_insn.specs.Encoding.{IsProgram}
use Rattle.ebpf_object_file.specs.declared.fault.FileFault.{FileFault}
use Rattle.ebpf_object_file.specs.declared.function.Function.{Function}
use Rattle.ebpf_object_file.specs.declared.lines.Lines.{Lines}
use Rattle.ebpf_object_file.specs.declared.object_fault.ObjectFault.{ObjectFault}
use Rattle.ebpf_object_file.specs.declared.object_fault.ObjectFault.TheVariants.{File}
use Rattle.ebpf_object_file.specs.Function.{IsWanted}
use Rattle.ebpf_object_file.specs.Shown.{AreHolding}
use Rattle.ebpf_object_file.specs.Source.{AreLinesOf, HasNoLinesOf, IsLinesOfFault}
use Rattle.ebpf_state.specs.declared.kinds.KindRow.{KindRow}
use Rattle.ebpf_verify.specs.declared.decl.Decl.{Decl}
use Rattle.ebpf_forward.specs.declared.fault.ForwardFault.{ForwardFault}
use Rattle.ebpf_forward.specs.declared.forward.Forward.{Forward}
use Rattle.ebpf_forward.specs.declared.why_not.WhyNot.{WhyNot}
use Rattle.ebpf_forward.specs.Forward.{IsForward, IsForwardFault, copies_of, program_of}
use Rattle.ebpf_forward.specs.WhyNot.{SaysWhyNot, slot_of}
use Rattle.ebpf_command.specs.declared.codes.RefusalCode.TheVariants.{Decode}
use Rattle.ebpf_command.specs.declared.done.FaultCode.{FaultCode}
use Rattle.ebpf_command.specs.declared.format.Format.{Format}
use Rattle.ebpf_command.specs.Codes.{refusal_name}
use Rattle.ebpf_command.specs.Response.{Response, refused_response}
use Rattle.ebpf_command.specs.Writing.{Responding}
use Rattle.ebpf_input.specs.declared.ask.Ask.{Ask}
use Rattle.ebpf_input.specs.declared.ask.Input.{Input}
use Rattle.ebpf_input.specs.declared.ask.Input.TheVariants.{Program, Object}
use Rattle.ebpf_input.specs.declared.form.Form.{Form}
use Rattle.ebpf_input.specs.declared.form.Form.TheVariants.{Raw}
use Rattle.ebpf_input.specs.declared.under.InFile.{InFile}
use Rattle.ebpf_input.specs.Asked.{Asked, AreGiven, asked_for, fault_of}
use Rattle.ebpf_input.specs.declared.data_request.DataRequest.{DataRequest}
use Rattle.ebpf_input.specs.DataRequest.{RespondsData}
use Rattle.ebpf_input.specs.Formats.{refused_why_in, fault_why_in}
use Rattle.ebpf_input.specs.InputFaults.{undecoded_sentence, fault_sentence}
use Rattle.ebpf_input.specs.NoRequest.{RespondsNoRequest}
use Rattle.ebpf_input.specs.ObjectText.{IsTakenFault, Refusing, object_fault_lines}
use Rattle.ebpf_input.specs.Under.{IsOver}
use Rattle.ebpf_input.specs.WhyNot.{why_not_in}
use Rattle.ebpf_one.specs.CopiesText.{SaysCopies}
use Rattle.ebpf_one.specs.Headed.{AreLinkedLines}
use Rattle.ebpf_one.specs.declared.headed.Headed.{Headed}
use Rattle.ebpf_one.specs.declared.how.How.{How}
use Rattle.ebpf_one.specs.declared.linked.Link.{Link}
use Rattle.ebpf_one.specs.declared.running.Running.{Running}
use Rattle.ebpf_one.specs.declared.unroll.Wanted.{Wanted}
use Rattle.ebpf_one.specs.LinkedText.{RespondsLinked, SendsLinked}
use Rattle.ebpf_one.specs.RunText.{IsRunOf, RunsForward}
use Rattle.ebpf_one.specs.Steps.{with_source}

-- ---- a program of which every jump leads forward is written, or run

-- or what is done with one that was linked with data
abbrev pub DoesForward : Format → Option Link → Option Running → Decl → List KindRow → Forward → Response → Type 0
DoesForward format None None decl rows f response = SaysCopies format (program_of f) (copies_of f) response
DoesForward format None (Some run) decl rows f response = RunsForward format run decl rows f response
DoesForward format (Some link) run decl rows f response = SendsLinked format run link decl rows f response

-- ---- or why there is none

-- Below, a slot is that of which is spoken, if it is one: the line of C that holds there is written too.

pub record UnrollsWell (format : Format) (w : Wanted) (p : List (Option Insn)) (decl : Decl) (rows : List KindRow) (slot : Option ℕ) (response : Response) : Type 0 where
  pub made : Forward
  pub is : IsForward p decl rows made
  pub does : DoesForward format w.link w.run decl rows made response
  pub unspoken : slot ≡ None

pub record UnrollsNot (format : Format) (p : List (Option Insn)) (decl : Decl) (rows : List KindRow) (slot : Option ℕ) (response : Response) : Type 0 where
  pub fault : ForwardFault
  pub is : IsForwardFault p decl rows fault
  pub why : WhyNot
  pub says : SaysWhyNot p decl rows fault why
  pub of : slot ≡ slot_of why
  pub told : response ≡ refused_response (why_not_in format why)

abbrev pub UnrollsProgram : Format → Wanted → List (Option Insn) → Decl → List KindRow → Option ℕ → Response → Type 0
UnrollsProgram format w p decl rows slot response = UnrollsWell format w p decl rows slot response ⊎ UnrollsNot format p decl rows slot response

-- bytes are refused as no program, or are the program that they encode
abbrev pub UnrollsDecoded : Format → Wanted → Option (ℕ × DecodeCode) → List ℕ → Decl → List KindRow → Option ℕ → Response → Type 0
UnrollsDecoded format w (Some refusal) bytes decl rows slot response =
    (slot ≡ Some refusal.0)
    × (response ≡ refused_response (refused_why_in format (refusal_name (Decode refusal.1)) refusal.0 (undecoded_sentence bytes refusal.0 refusal.1)))
UnrollsDecoded format w None bytes decl rows slot response =
    (p : List (Option Insn)) × IsProgram bytes p × UnrollsProgram format w p decl rows slot response

-- ---- by what is asked

-- the response to the bytes that are asked for, where they are a function of a file, with the line of C
pub record UnrollsBytes (format : Format) (how : Option How) (function : Option InFile) (a : Asked) (response : Response) : Type 0 where
  pub decl : Decl
  pub rows : List KindRow
  pub given : AreGiven a decl rows
  pub run : Option Running
  pub runs : IsRunOf how a.context run
  pub slot : Option ℕ
  pub said : Response
  pub is : UnrollsDecoded format (record { run = run; link = None }) (decode_fault a.bytes) a.bytes decl rows slot said
  pub over : IsOver format function slot said response

-- the input or an option can't be used, and why, or bytes are asked for
abbrev pub UnrollsAsked : Ask → Option How → Option FaultCode → Option InFile → Form → Responding
UnrollsAsked ask how (Some code) function form input response =
    response ≡ refused_response (fault_why_in ask.format code 0 (fault_sentence form input ask.context.now ask.held code))
UnrollsAsked ask how None function form input response =
    UnrollsBytes ask.format how function (asked_for form input ask.context.now ask.held) response

abbrev pub UnrollsTo : Ask → Option How → Option InFile → Form → Responding
UnrollsTo ask how function form input response =
    UnrollsAsked ask how (fault_of form input ask.context.now ask.held) function form input response

-- the function of a file that is asked for
abbrev pub UnrollsPlaced : Ask → Option How → List ℕ → Function → Response → Type 0
UnrollsPlaced ask how file f response =
    (function : InFile) × (function.file.now ≡ file) × (function.place ≡ f.place) × UnrollsTo ask how (Some function) Raw f.code.now response

-- it is run with the line of C that holds at each of its slots
pub record UnrollsLined (ask : Ask) (how : How) (file : List ℕ) (f : Function) (l : Lines) (response : Response) : Type 0 where
  pub source : Headed
  pub lines : source.lines ≡ l
  pub whole : length source.holding.now ≡ length f.code.now / 8
  pub are : AreHolding l f.place.from source.holding.now
  pub told : UnrollsPlaced ask (Some (with_source how source)) file f response

-- the file says nothing of the function's lines, or says what they are, or its lines can't be read
abbrev pub UnrollsSourced : Ask → How → List ℕ → Function → Response → Type 0
UnrollsSourced ask how file f response =
    (HasNoLinesOf file f.place.section × UnrollsPlaced ask (Some how) file f response)
    ⊎ ((l : Lines) × AreLinesOf file f.place.section l × UnrollsLined ask how file f l response)
    ⊎ ((e : FileFault) × IsLinesOfFault file f.place.section e × (response ≡ refused_response (object_fault_lines ask.format (File e))))

-- the lines may be asked for
abbrev pub UnrollsAskedLines : Ask → How → Bool → List ℕ → Function → Response → Type 0
UnrollsAskedLines ask how true file f response = UnrollsSourced ask how file f response
UnrollsAskedLines ask how false file f response = UnrollsPlaced ask (Some how) file f response

abbrev pub UnrollsFunction : Ask → Option How → List ℕ → Function → Response → Type 0
UnrollsFunction ask None file f response = UnrollsPlaced ask None file f response
UnrollsFunction ask (Some how) file f response = UnrollsAskedLines ask how how.lines file f response

-- what is said of a program that was linked with data of its file
pub record UnrollsRequest (format : Format) (how : Option How) (r : DataRequest) (rows : List KindRow) (link : Link) (slot : Option ℕ) (said : Response) : Type 0 where
  pub run : Option Running
  pub runs : IsRunOf how r.request.context.items run
  pub is : UnrollsDecoded format (record { run = run; link = Some link }) (decode_fault r.request.bytes.items) r.request.bytes.items r.request.decl rows slot said

abbrev pub UnrollsLinked : Format → Option How → List ℕ → DataRequest → Response → Type 0
UnrollsLinked format how file r = RespondsLinked format file r (UnrollsRequest format how r)

-- it is run with the line of C that holds at each slot of the function
pub record UnrollsLinkedLined (format : Format) (how : How) (file : List ℕ) (r : DataRequest) (l : Lines) (response : Response) : Type 0 where
  pub source : Headed
  pub lines : source.lines ≡ l
  pub are : AreLinkedLines l r.function.function source.holding.now
  pub told : UnrollsLinked format (Some (with_source how source)) file r response

-- the file says nothing of the function's lines, or says what they are, or its lines can't be read
abbrev pub UnrollsLinkedSourced : Format → How → List ℕ → DataRequest → Response → Type 0
UnrollsLinkedSourced format how file r response =
    (HasNoLinesOf file r.function.function.place.section × UnrollsLinked format (Some how) file r response)
    ⊎ ((l : Lines) × AreLinesOf file r.function.function.place.section l × UnrollsLinkedLined format how file r l response)
    ⊎ ((e : FileFault) × IsLinesOfFault file r.function.function.place.section e × (response ≡ refused_response (object_fault_lines format (File e))))

-- the lines may be asked for
abbrev pub UnrollsLinkedAsked : Format → How → Bool → List ℕ → DataRequest → Response → Type 0
UnrollsLinkedAsked format how true file r response = UnrollsLinkedSourced format how file r response
UnrollsLinkedAsked format how false file r response = UnrollsLinked format (Some how) file r response

abbrev pub UnrollsData : Format → Option How → List ℕ → DataRequest → Response → Type 0
UnrollsData format None file r response = UnrollsLinked format None file r response
UnrollsData format (Some how) file r response = UnrollsLinkedAsked format how how.lines file r response

-- the response to a function that reads data of its file
abbrev pub UnrollsWithData : Ask → Option How → Refusing
UnrollsWithData ask how name file = RespondsData ask (UnrollsData ask.format how file) (RespondsNoRequest ask) name file

-- the file is too long, which is said of it, or has the function that is asked for, or it is one that reads data, or has none
abbrev pub UnrollsObject : Ask → Option How → List ℕ → Responding
UnrollsObject ask how name file response =
    ((1048576 < length file) × UnrollsTo ask how None Raw file response)
    ⊎ ((length file ≤ 1048576) × (f : Function) × IsWanted file name f × UnrollsFunction ask how file f response)
    ⊎ ((e : ObjectFault) × IsTakenFault name file e × UnrollsWithData ask how name file e response)

abbrev pub UnrollsBy : Ask → Option How → Input → Responding
UnrollsBy ask how (Program form) = UnrollsTo ask how None form
UnrollsBy ask how (Object name) = UnrollsObject ask how name.now

-- the program is written, or run if it is said how
abbrev pub UnrollsInput : Ask → Option How → Responding
UnrollsInput ask how = UnrollsBy ask how ask.input
