-- The responses of `explain` and `graph` to an input and its options: what they show of the program, and of what doesn't come so far, why.
use Rattle.std.specs.Prelude.{◌≡◌, ◌⊎◌, ℕ, Bool, true, false, List, map, Option, Some, None}
use Rattle.ebpf_insn.specs.declared.fault.DecodeCode.{DecodeCode}
use Rattle.ebpf_insn.specs.declared.insn.Insn.{Insn}
use Rattle.ebpf_insn.specs.Decoding.{decode_fault}
use Rattle.ebpf_insn.specs.Encoding.{IsProgram}
use Rattle.ebpf_object_file.specs.declared.lines.Line.{Line}
use Rattle.ebpf_flow.specs.declared.followed.Followed.{Followed}
use Rattle.ebpf_flow.specs.declared.followed.Followed.TheVariants.{Undecoded, Misled, Flowed}
use Rattle.ebpf_flow.specs.Followed.{IsFollowed}
use Rattle.ebpf_state.specs.declared.kinds.KindRow.{KindRow}
use Rattle.ebpf_verify.specs.declared.decl.Decl.{Decl}
use Rattle.ebpf_verify.specs.Subject.{Subject}
use Rattle.ebpf_forward.specs.declared.fault.ForwardFault.{ForwardFault}
use Rattle.ebpf_forward.specs.declared.forward.Forward.{Forward}
use Rattle.ebpf_forward.specs.declared.why_not.WhyNot.{WhyNot}
use Rattle.ebpf_forward.specs.Forward.{IsForward, IsForwardFault, program_of}
use Rattle.ebpf_forward.specs.Forward as forward
use Rattle.ebpf_forward.specs.WhyNot.{SaysWhyNot, slot_of}
use Rattle.ebpf_command.specs.declared.codes.RefusalCode.TheVariants.{Decode}
use Rattle.ebpf_command.specs.declared.done.FaultCode.{FaultCode}
use Rattle.ebpf_command.specs.declared.format.Format.{Format}
use Rattle.ebpf_command.specs.declared.format.Format.TheVariants.{Text}
use Rattle.ebpf_command.specs.Codes.{refusal_name}
use Rattle.ebpf_command.specs.Response.{Response, refused_response}
use Rattle.ebpf_command.specs.Writing.{Responding}
use Rattle.ebpf_input.specs.declared.form.Form.{Form}
use Rattle.ebpf_input.specs.Asked.{Asked, AreGiven, asked_for, fault_of}
use Rattle.ebpf_input.specs.Formats.{misled_response, refused_why_in, fault_why_in}
use Rattle.ebpf_input.specs.InputFaults.{undecoded_sentence, fault_sentence}
use Rattle.ebpf_input.specs.WhyNot.{why_not_in}
use Rattle.ebpf_show.specs.declared.copies.Copies.{Copies}
use Rattle.ebpf_show.specs.declared.shown.Shown.{Shown}
use Rattle.ebpf_show.specs.declared.shown.Shown.TheVariants.{States, Graph}
use Rattle.ebpf_show.specs.declared.sourced.Beside.{Beside}
use Rattle.ebpf_show.specs.declared.sourced.Sourced.{Sourced}
use Rattle.ebpf_show.specs.Copies.{item_at}
use Rattle.ebpf_show.specs.ExplainText.{explained}
use Rattle.ebpf_show.specs.GraphText.{graphed}
use Rattle.ebpf_show.specs.Sourced.{with_line}

-- the format of what is shown, and the lines of C that are known: a graph is a text without them
abbrev pub format_of : Shown → Format
format_of (States format beside) = format
format_of (Graph states) = Text

abbrev pub source_of : Shown → Option Sourced
source_of (States format beside) = beside.source
source_of (Graph states) = None

-- the slots of another program that are copied, if any
abbrev pub copies_of : Shown → Option Copies
copies_of (States format beside) = beside.copies
copies_of (Graph states) = None

-- what is shown of a program
abbrev pub shown_of : Shown → Subject → Response
shown_of (States format beside) s = explained format beside s
shown_of (Graph states) s = graphed states s

-- the response to bytes by how far they come
abbrev pub shown_as : Shown → List ℕ → Decl → List KindRow → Followed → Response
shown_as shown bytes decl rows (Undecoded slot code) = with_line (format_of shown) (source_of shown) slot
    (refused_response (refused_why_in (format_of shown) (refusal_name (Decode code)) slot (undecoded_sentence bytes slot code)))
shown_as shown bytes decl rows (Misled p slot code) = with_line (format_of shown) (source_of shown) slot (misled_response (format_of shown) p slot code)
shown_as shown bytes decl rows (Flowed p) = shown_of shown (record { program = p; decl = decl; rows = rows })

-- the response to bytes with what is declared and the kinds
pub record ShowsWith (shown : Shown) (bytes : List ℕ) (decl : Decl) (rows : List KindRow) (response : Response) : Type 0 where
  pub followed : Followed
  pub is_followed : IsFollowed bytes followed
  pub is : response ≡ shown_as shown bytes decl rows followed

-- ---- a program of which every jump is to lead forward first

-- what is shown where a program copies slots of another one: the lines of C are those of the slots that it copies
abbrev pub IsHeldSource : List (Option Line) → Option Sourced → Option Sourced → Type 0
IsHeldSource holding None source = source ≡ None
IsHeldSource holding (Some old) source =
    (new : Sourced) × (source ≡ Some new) × (new.lines ≡ old.lines) × (new.listed ≡ old.listed) × (new.holding.now ≡ holding)

abbrev pub AreCopiedOf : List (Option ℕ) → Option Sourced → List (Option Line) → Type 0
AreCopiedOf of None holding = Unit {0}
AreCopiedOf of (Some old) holding = holding ≡ map (item_at old.holding.now) of

abbrev pub AreCopiedLines : List (Option ℕ) → Shown → List (Option Line) → Type 0
AreCopiedLines of shown = AreCopiedOf of (source_of shown)

-- beside it are these slots, and these lines of C
abbrev pub HasBeside : List (Option ℕ) → List (Option Line) → Shown → Shown → Type 0
HasBeside of holding (States format beside) new =
    (b : Beside) × (c : Copies) × (new ≡ States format b) × IsHeldSource holding beside.source b.source × (b.copies ≡ Some c) × (c.of.now ≡ of)
HasBeside of holding (Graph states) new = new ≡ Graph states

-- the slots that are named: where what is shown copies slots too, those which the copied ones copy
abbrev pub first_slots : Option Copies → List (Option ℕ) → List (Option ℕ)
first_slots None of = of
first_slots (Some c) of = map (item_at c.of.now) of

abbrev pub IsCopiedShown : List (Option ℕ) → Shown → Shown → Type 0
IsCopiedShown of shown new =
    (holding : List (Option Line)) × AreCopiedLines of shown holding × HasBeside (first_slots (copies_of shown) of) holding shown new

-- the program that was made is shown as its bytes are
pub record ShowsMade (shown : Shown) (decl : Decl) (rows : List KindRow) (f : Forward) (response : Response) : Type 0 where
  pub bytes : List ℕ
  pub is_program : IsProgram bytes (program_of f)
  pub copied : Shown
  pub is_copied : IsCopiedShown (forward.copies_of f) shown copied
  pub told : ShowsWith copied bytes decl rows response

-- the line under what is said of a slot
abbrev pub under : Shown → Option ℕ → Response → Response
under shown None said = said
under shown (Some slot) said = with_line (format_of shown) (source_of shown) slot said

-- or it says why none is made
pub record ShowsWhyNot (shown : Shown) (p : List (Option Insn)) (decl : Decl) (rows : List KindRow) (response : Response) : Type 0 where
  pub fault : ForwardFault
  pub is : IsForwardFault p decl rows fault
  pub why : WhyNot
  pub says : SaysWhyNot p decl rows fault why
  pub told : response ≡ under shown (slot_of why) (refused_response (why_not_in (format_of shown) why))

abbrev pub ShowsForward : Shown → List (Option Insn) → Decl → List KindRow → Response → Type 0
ShowsForward shown p decl rows response =
    ((f : Forward) × IsForward p decl rows f × ShowsMade shown decl rows f response) ⊎ ShowsWhyNot shown p decl rows response

abbrev pub ShowsDecoded : Option (ℕ × DecodeCode) → Shown → List ℕ → Decl → List KindRow → Response → Type 0
ShowsDecoded (Some refusal) shown bytes decl rows response = response ≡ shown_as shown bytes decl rows (Undecoded refusal.0 refusal.1)
ShowsDecoded None shown bytes decl rows response = (p : List (Option Insn)) × IsProgram bytes p × ShowsForward shown p decl rows response

-- ---- by what is asked

-- the bytes are shown as they are, or of the program that is made of theirs
abbrev pub ShowsBy : Bool → Shown → List ℕ → Decl → List KindRow → Response → Type 0
ShowsBy false shown bytes decl rows response = ShowsWith shown bytes decl rows response
ShowsBy true shown bytes decl rows response = ShowsDecoded (decode_fault bytes) shown bytes decl rows response

-- the response to the bytes that are asked for
abbrev pub ShowsBytes : Bool → Shown → Asked → Response → Type 0
ShowsBytes unroll shown a response = (decl : Decl) × (rows : List KindRow) × AreGiven a decl rows × ShowsBy unroll shown a.bytes decl rows response

-- the input or an option can't be used, and why, or bytes are asked for
abbrev pub ShowsAsked : Bool → Shown → Option FaultCode → (form : Form) (input context : List ℕ) (held : ℕ) → Response → Type 0
ShowsAsked unroll shown (Some code) form input context held response =
    response ≡ refused_response (fault_why_in (format_of shown) code 0 (fault_sentence form input context held code))
ShowsAsked unroll shown None form input context held response = ShowsBytes unroll shown (asked_for form input context held) response

-- the response by the form of the input, the context's text and the most objects to hold
abbrev pub ShowsTo : Bool → Shown → Form → List ℕ → ℕ → Responding
ShowsTo unroll shown form context held input response = ShowsAsked unroll shown (fault_of form input context held) form input context held response

-- that of `explain`, with the lines of C and without, and that of `graph`, by whether the states are asked for; of the program as it is, or
-- of one of which every jump leads forward
abbrev pub states_of : Format → Option Sourced → Shown
states_of format source = States format (record { source = source; copies = None })

abbrev pub ExplainsWith : Format → Bool → Option Sourced → Form → List ℕ → ℕ → Responding
ExplainsWith format unroll source = ShowsTo unroll (states_of format source)

abbrev pub ExplainsTo : Format → Bool → Form → List ℕ → ℕ → Responding
ExplainsTo format unroll = ExplainsWith format unroll None

abbrev pub GraphsAs : Bool → Bool → List ℕ → ℕ → Form → Responding
GraphsAs unroll states context held form = ShowsTo unroll (Graph states) form context held
