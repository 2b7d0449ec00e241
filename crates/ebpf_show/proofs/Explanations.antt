-- The explanation of a function of an object file: with its lines and without, and of a file that is too long.
use Rattle.std.proofs.Common.{◌≡◌, inl, inr, ℕ, List, Option, subst, arith}
use Rattle.std.specs.Prelude.{None, Some}
use Rattle.ebpf_object_file.specs.declared.function.Function.{Function}
use Rattle.ebpf_object_file.specs.declared.lines.Lines.{Lines}
use Rattle.ebpf_object_file.specs.Source.{AreLinesOf, HasNoLinesOf}
use Rattle.ebpf_command.specs.Response.{Response}
use Rattle.ebpf_command.proofs.Written.{CutsLong}
use Rattle.ebpf_input.specs.declared.ask.Ask.{Ask}
use Rattle.ebpf_input.specs.declared.ask.Input.{Input}
use Rattle.ebpf_input.specs.declared.ask.Input.TheVariants.{Program, Object}
use Rattle.ebpf_input.specs.declared.form.Form.TheVariants.{Raw}
use Rattle.ebpf_input.proofs.ObjectResponses.{read_long}
use Rattle.ebpf_input.proofs.SourceLine.{LinesKnown}
use Rattle.ebpf_show.specs.Shown.{states_of}
use Rattle.ebpf_show.specs.declared.explain_object.Code.{Code}
use Rattle.ebpf_show.specs.declared.explain_object.Detail.{Detail}
use Rattle.ebpf_show.specs.ExplainObject.{ExplainsCode, ExplainsLined, ExplainsFunction, ExplainsObject, ExplainsBy, ExplainsInput}
use Rattle.ebpf_show.proofs.Responses.{shown_cuts}

module _ (ask : Ask) (d : Detail) where
  -- of a file that is too long the beginning is answered
  explained_object_cuts : (name : List ℕ) → CutsLong (ExplainsObject ask d name)
  explained_object_cuts name file response long (inl k) =
      inl (omega (arith, long), shown_cuts d.unroll (states_of ask.format None) Raw ask.context.now ask.held file response long k.1)
  explained_object_cuts name file response long (inr (inl k)) =
      let short = k.0 in let read = read_long file long in absurd (omega (arith, short, read))
  explained_object_cuts name file response long (inr (inr k)) =
      let short = k.1.0 in let read = read_long file long in absurd (omega (arith, short, read))

  -- and of every input
  explains_cuts_by : (input : Input) → CutsLong (ExplainsBy ask d input)
  explains_cuts_by (Program form) = shown_cuts d.unroll (states_of ask.format None) form ask.context.now ask.held
  explains_cuts_by (Object name) = explained_object_cuts name.now

  pub explains_cuts : CutsLong (ExplainsInput ask d)
  explains_cuts = explains_cuts_by ask.input

  -- a function without lines is explained so, and one with them
  module _ (file : List ℕ) (f : Function) (code : Code) (r : Option Lines) (response : Response) where
    pub of_no_lines : r ≡ None → LinesKnown file f r → ExplainsCode ask d.unroll code None response → ExplainsFunction ask d file f code response
    of_no_lines e known h = let is : HasNoLinesOf file f.place.section = subst (LinesKnown file f) e known in inr (inl (is, h))

    pub of_lines : (l : Lines) → r ≡ Some l → LinesKnown file f r → ExplainsLined ask d l f code response → ExplainsFunction ask d file f code response
    of_lines l e known h = let are : AreLinesOf file f.place.section l = subst (LinesKnown file f) e known in inl (l, are, h)
