-- The response of `unroll` to an input is its response to what is read of it.
use Rattle.std.proofs.Common.{◌≡◌, inl, inr, ℕ, List, Option, Some, None, sym, subst, arith}
use Rattle.ebpf_command.specs.declared.done.FaultCode.{FaultCode}
use Rattle.ebpf_command.specs.declared.format.Format.{Format}
use Rattle.ebpf_command.specs.Response.{Response}
use Rattle.ebpf_object_file.specs.declared.function.Function.{Function}
use Rattle.ebpf_object_file.specs.declared.lines.Lines.{Lines}
use Rattle.ebpf_object_file.specs.Source.{AreLinesOf, HasNoLinesOf}
use Rattle.ebpf_command.proofs.Written.{CutsLong}
use Rattle.ebpf_input.specs.declared.ask.Ask.{Ask}
use Rattle.ebpf_input.specs.declared.ask.Input.{Input}
use Rattle.ebpf_input.specs.declared.ask.Input.TheVariants.{Program, Object}
use Rattle.ebpf_input.specs.declared.form.Form.{Form}
use Rattle.ebpf_input.specs.declared.form.Form.TheVariants.{Raw}
use Rattle.ebpf_input.specs.declared.data_request.DataRequest.{DataRequest}
use Rattle.ebpf_input.specs.Asked.{Asked, asked_for, fault_of}
use Rattle.ebpf_input.proofs.LongInputs.{cuts_at, fault_of_long}
use Rattle.ebpf_input.proofs.ObjectResponses.{read_long}
use Rattle.ebpf_input.proofs.SourceLine.{LinesKnown}
use Rattle.ebpf_input.specs.declared.under.InFile.{InFile}
use Rattle.ebpf_one.specs.declared.how.How.{How}
use Rattle.ebpf_one.specs.UnrollText.{UnrollsAsked, UnrollsBy, UnrollsBytes, UnrollsInput, UnrollsLined, UnrollsLinked, UnrollsLinkedLined, UnrollsLinkedSourced, UnrollsObject, UnrollsPlaced, UnrollsSourced, UnrollsTo}

-- of an input that is too long the beginning is answered
pub unroll_cuts_to : (ask : Ask) (how : Option How) (function : Option InFile) (form : Form) → CutsLong (UnrollsTo ask how function form)
unroll_cuts_to ask how function form =
    cuts_at (λ input. fault_of form input ask.context.now ask.held) (λ f input response. UnrollsAsked ask how f function form input response)
    (λ input long. fault_of_long form input ask.context.now ask.held long) (λ a b response h. h)

unroll_cuts_object : (ask : Ask) (how : Option How) (name : List ℕ) → CutsLong (UnrollsObject ask how name)
unroll_cuts_object ask how name file response long (inl k) = inl (omega (arith, long), unroll_cuts_to ask how None Raw file response long k.1)
unroll_cuts_object ask how name file response long (inr (inl k)) =
    let short = k.0 in let read = read_long file long in absurd (omega (arith, short, read))
unroll_cuts_object ask how name file response long (inr (inr k)) =
    let short = k.1.0 in let read = read_long file long in absurd (omega (arith, short, read))

unroll_cuts_by : (ask : Ask) (how : Option How) (input : Input) → CutsLong (UnrollsBy ask how input)
unroll_cuts_by ask how (Program form) = unroll_cuts_to ask how None form
unroll_cuts_by ask how (Object name) = unroll_cuts_object ask how name.now

pub unroll_cuts : (ask : Ask) (how : Option How) → CutsLong (UnrollsInput ask how)
unroll_cuts ask how = unroll_cuts_by ask how ask.input

-- what is said of the bytes that an input asks for is said of the input
pub Unrolls-asked : (ask : Ask) (how : Option How) (function : Option InFile) (form : Form) (input : List ℕ) (a : Asked) (response : Response)
    → fault_of form input ask.context.now ask.held ≡ None → a ≡ asked_for form input ask.context.now ask.held
    → UnrollsBytes ask.format how function a response → UnrollsTo ask how function form input response
Unrolls-asked ask how function form input a response fine same h =
    let P : Option FaultCode → Type 0 = λ f. UnrollsAsked ask how f function form input response in
    subst P (sym fine) (subst (λ (x : Asked). UnrollsBytes ask.format how function x response) same h)

-- the response to a function without lines, and with them
pub of_no_lines : (ask : Ask) (how : How) (file : List ℕ) (f : Function) (r : Option Lines) (response : Response) → r ≡ None → LinesKnown file f r
    → UnrollsPlaced ask (Some how) file f response → UnrollsSourced ask how file f response
of_no_lines ask how file f r response e known h = let is : HasNoLinesOf file f.place.section = subst (LinesKnown file f) e known in inl (is, h)

pub of_lines : (ask : Ask) (how : How) (file : List ℕ) (f : Function) (r : Option Lines) (l : Lines) (response : Response) → r ≡ Some l → LinesKnown file f r
    → UnrollsLined ask how file f l response → UnrollsSourced ask how file f response
of_lines ask how file f r l response e known h = let are : AreLinesOf file f.place.section l = subst (LinesKnown file f) e known in inr (inl (l, are, h))

-- and to one that was linked with data
pub linked_no_lines : (format : Format) (how : How) (file : List ℕ) (q : DataRequest) (r : Option Lines) (response : Response) → r ≡ None → LinesKnown file q.function.function r
    → UnrollsLinked format (Some how) file q response → UnrollsLinkedSourced format how file q response
linked_no_lines format how file q r response e known h =
    let is : HasNoLinesOf file q.function.function.place.section = subst (LinesKnown file q.function.function) e known in inl (is, h)

pub linked_lines : (format : Format) (how : How) (file : List ℕ) (q : DataRequest) (r : Option Lines) (l : Lines) (response : Response) → r ≡ Some l
    → LinesKnown file q.function.function r → UnrollsLinkedLined format how file q l response → UnrollsLinkedSourced format how file q response
linked_lines format how file q r l response e known h =
    let are : AreLinesOf file q.function.function.place.section l = subst (LinesKnown file q.function.function) e known in inr (inl (l, are, h))
