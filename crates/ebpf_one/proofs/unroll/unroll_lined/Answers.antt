use Rattle.std.proofs.Common.{List, Option, Some, length, refl, sym, ap, ◌∙◌, subst}
use Rattle.std.proofs.lemmas.Result.{IfOk-weaker}
use Rattle.ebpf_object_file.specs.declared.lines.Line.{Line}
use Rattle.ebpf_object_file.specs.Shown.{AreHolding}
use Rattle.ebpf_one.specs.declared.how.How.{How}
use Rattle.ebpf_one.specs.UnrollText.{UnrollsPlaced}
use Rattle.ebpf_one.proofs.unroll.unroll_lined.Goals as goal

pub returns : goal.returns
returns c = IfOk-weaker c.unroll_placed.result _ _
    (λ response h. record {
      source = record { lines = c.args.lines; holding = c.deref.result };
      lines = refl;
      whole = ap length c.deref.ensures.value ∙ c.in_ok-holding.ensures.whole;
      are = subst (λ (holding : List (Option Line)). AreHolding c.args.lines c.args.function.place.from holding) (sym c.deref.ensures.value) c.in_ok-holding.ensures.held;
      told = subst (λ (how : How). UnrollsPlaced c.args.ask.now (Some how) c.args.file.now c.args.function response) c.with_source.ensures h;
    }) c.unroll_placed.ensures
