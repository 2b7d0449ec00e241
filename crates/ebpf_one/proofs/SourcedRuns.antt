-- The responses of `one` to an object file with the lines of C.
use Rattle.std.proofs.Common.{◌≡◌, inl, inr, ℕ, Bool, true, false, List, Option, Some, None, subst, arith}
use Rattle.ebpf_object_file.specs.declared.function.Function.{Function}
use Rattle.ebpf_object_file.specs.declared.lines.Lines.{Lines}
use Rattle.ebpf_object_file.specs.Source.{AreLinesOf, HasNoLinesOf}
use Rattle.ebpf_command.specs.declared.format.Format.{Format}
use Rattle.ebpf_command.specs.Response.{Response}
use Rattle.ebpf_command.proofs.Written.{CutsLong}
use Rattle.ebpf_input.specs.declared.ask.Ask.{Ask}
use Rattle.ebpf_input.specs.declared.ask.Input.{Input}
use Rattle.ebpf_input.specs.declared.ask.Input.TheVariants.{Program, Object}
use Rattle.ebpf_input.specs.declared.form.Form.{Form}
use Rattle.ebpf_input.specs.declared.form.Form.TheVariants.{Raw}
use Rattle.ebpf_input.specs.declared.data_request.DataRequest.{DataRequest}
use Rattle.ebpf_input.specs.DataRequest.{asked_by}
use Rattle.ebpf_input.proofs.ObjectResponses.{read_long, object_cuts}
use Rattle.ebpf_input.proofs.SourceLine.{LinesKnown}
use Rattle.ebpf_one.specs.declared.how.How.{How}
use Rattle.ebpf_one.specs.OneText.{OneLinkedLined, OneLinkedSourced, OneTo, OneWithData, RespondsBytes}
use Rattle.ebpf_one.specs.SourcedRun.{OneBy, OneFunction, OneLined, OneSourced}
use Rattle.ebpf_one.proofs.Responses.{one_cuts}

one_to_cuts : (ask : Ask) (how : How) (form : Form) → CutsLong (OneTo ask how form)
one_to_cuts ask how form = one_cuts ask.format form ask.context.now ask.held how

-- of a file that is too long the beginning is answered
sourced_cuts : (ask : Ask) (how : How) (name : List ℕ) → CutsLong (OneSourced ask how name)
sourced_cuts ask how name file response long (inl k) = inl (omega (arith, long), one_to_cuts ask how Raw file response long k.1)
sourced_cuts ask how name file response long (inr (inl k)) =
    let short = k.0 in let read = read_long file long in absurd (omega (arith, short, read))
sourced_cuts ask how name file response long (inr (inr k)) =
    let short = k.1.0 in let read = read_long file long in absurd (omega (arith, short, read))

pub one_input_cuts : (ask : Ask) (how : How) (input : Input) (lines : Bool) → CutsLong (OneBy ask how input lines)
one_input_cuts ask how (Program form) lines = one_to_cuts ask how form
one_input_cuts ask how (Object name) true = sourced_cuts ask how name.now
one_input_cuts ask how (Object name) false = object_cuts (OneWithData ask how) (OneTo ask how Raw) (one_to_cuts ask how Raw) name.now

-- the response to a function without lines, and with them
pub of_no_lines : (ask : Ask) (how : How) (file : List ℕ) (f : Function) (r : Option Lines) (response : Response) → r ≡ None → LinesKnown file f r
    → OneTo ask how Raw f.code.now response → OneFunction ask how file f response
of_no_lines ask how file f r response e known h = let is : HasNoLinesOf file f.place.section = subst (LinesKnown file f) e known in inl (is, h)

pub of_lines : (ask : Ask) (how : How) (file : List ℕ) (f : Function) (r : Option Lines) (l : Lines) (response : Response) → r ≡ Some l → LinesKnown file f r
    → OneLined ask how f l response → OneFunction ask how file f response
of_lines ask how file f r l response e known h = let are : AreLinesOf file f.place.section l = subst (LinesKnown file f) e known in inr (inl (l, are, h))

-- and to one that was linked with data
pub linked_no_lines : (format : Format) (how : How) (file : List ℕ) (q : DataRequest) (r : Option Lines) (response : Response) → r ≡ None → LinesKnown file q.function.function r
    → RespondsBytes format (asked_by q) how response → OneLinkedSourced format how file q response
linked_no_lines format how file q r response e known h =
    let is : HasNoLinesOf file q.function.function.place.section = subst (LinesKnown file q.function.function) e known in inl (is, h)

pub linked_lines : (format : Format) (how : How) (file : List ℕ) (q : DataRequest) (r : Option Lines) (l : Lines) (response : Response) → r ≡ Some l
    → LinesKnown file q.function.function r → OneLinkedLined format how q l response → OneLinkedSourced format how file q response
linked_lines format how file q r l response e known h =
    let are : AreLinesOf file q.function.function.place.section l = subst (LinesKnown file q.function.function) e known in inr (inl (l, are, h))
