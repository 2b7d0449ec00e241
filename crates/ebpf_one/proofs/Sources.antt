-- The listing with the lines of C, a slot at a time, and of an object file that is too long.
use Rattle.std.proofs.Common.{◌≡◌, ◌+◌, inl, inr, ℕ, Bool, true, false, List, [], ◌++◌, Option, refl, ap, subst, ◌∙◌, add-one, arith}
use Rattle.std.specs.Prelude.{None, Some, slice_index_or}
use Rattle.ebpf_command.specs.declared.format.Format.{Format}
use Rattle.ebpf_insn.specs.declared.insn.Insn.{Insn}
use Rattle.ebpf_insn.specs.Program.{insn_at}
use Rattle.ebpf_insn.specs.Decoding.{decode_fault}
use Rattle.ebpf_object_file.specs.declared.function.Function.{Function}
use Rattle.ebpf_object_file.specs.declared.lines.Line.{Line}
use Rattle.ebpf_object_file.specs.declared.lines.Lines.{Lines}
use Rattle.ebpf_object_file.specs.Source.{AreLinesOf, HasNoLinesOf}
use Rattle.ebpf_input.specs.declared.ask.Input.{Input}
use Rattle.ebpf_input.specs.declared.ask.Input.TheVariants.{Program, Object}
use Rattle.ebpf_input.specs.declared.form.Form.TheVariants.{Raw}
use Rattle.ebpf_input.specs.SourceLine.{heading, held_before}
use Rattle.ebpf_input.proofs.ObjectResponses.{read_long, object_cuts}
use Rattle.ebpf_input.proofs.SourceLine.{LinesKnown, headed_row}
use Rattle.ebpf_one.specs.Formats.{insn_in}
use Rattle.ebpf_command.specs.Response.{Response}
use Rattle.ebpf_command.proofs.Written.{CutsLong}
use Rattle.ebpf_one.specs.DataListText.{ListsWithData}
use Rattle.ebpf_one.specs.ListText.{RespondsList}
use Rattle.ebpf_one.specs.SourceText.{sourced_below, SourcesDecoded, SourcesFunction, RespondsSource, ListsInput}
use Rattle.ebpf_one.proofs.Responses.{list_cuts}

pub sourced_none : (format : Format) (l : Lines) (holding : List (Option Line)) (p : List (Option Insn)) → [] ≡ sourced_below format l holding p 0
unfolding sourced_below
sourced_none format l holding p = refl

-- the line of C and that of the instruction are written
pub sourced_more : (format : Format) (l : Lines) (holding : List (Option Line)) (p : List (Option Insn)) (n : ℕ) (before now : Option Line) (text headed written : List ℕ)
    → text ≡ sourced_below format l holding p n
    → before ≡ held_before holding n
    → now ≡ slice_index_or holding n None
    → headed ≡ text ++ heading format l before now
    → written ≡ headed ++ insn_in format n (insn_at p n)
    → written ≡ sourced_below format l holding p (n + 1)
unfolding sourced_below
sourced_more format l holding p n before now text headed written was same is first second =
    let row : List ℕ = insn_in format n (insn_at p n) in
    let head : List ℕ = heading format l (held_before holding n) (slice_index_or holding n None) in
    let more : written ≡ text ++ (head ++ row) = headed_row format l before (held_before holding n) now (slice_index_or holding n None) text headed written row same is
    first second in
    rw (add-one) (more ∙ ap (λ (x : List ℕ). x ++ (head ++ row)) was)

-- of a file that is too long the beginning is answered
pub source_cuts : (format : Format) (name : List ℕ) → CutsLong (RespondsSource format name)
source_cuts format name file response long (inl k) = inl (omega (arith, long), list_cuts format Raw file response long k.1)
source_cuts format name file response long (inr (inl k)) =
    let short = k.0 in let read = read_long file long in absurd (omega (arith, short, read))
source_cuts format name file response long (inr (inr k)) =
    let short = k.1.0 in let read = read_long file long in absurd (omega (arith, short, read))

-- the response to a function without lines, and with them
pub of_no_lines : (format : Format) (file : List ℕ) (f : Function) (r : Option Lines) (response : Response) → r ≡ None → LinesKnown file f r
    → RespondsList format Raw f.code.now response → SourcesFunction format file f response
of_no_lines format file f r response e known h = let is : HasNoLinesOf file f.place.section = subst (LinesKnown file f) e known in inl (is, h)

pub of_lines : (format : Format) (file : List ℕ) (f : Function) (r : Option Lines) (l : Lines) (response : Response) → r ≡ Some l → LinesKnown file f r
    → SourcesDecoded format (decode_fault f.code.now) f.code.now l f.place.from response → SourcesFunction format file f response
of_lines format file f r l response e known h = let are : AreLinesOf file f.place.section l = subst (LinesKnown file f) e known in inr (inl (l, are, h))

-- and `list`, whatever the input is
pub lists_cuts : (format : Format) (input : Input) (lines : Bool) → CutsLong (ListsInput format input lines)
lists_cuts format (Program form) lines = list_cuts format form
lists_cuts format (Object name) true = source_cuts format name.now
lists_cuts format (Object name) false = object_cuts (ListsWithData format false) (RespondsList format Raw) (list_cuts format Raw) name.now
