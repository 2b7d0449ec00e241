use Rattle.std.proofs.Common.{List, Option, Some, refl, sym, subst}
use Rattle.std.proofs.lemmas.Result.{IfOk-weaker}
use Rattle.ebpf_object_file.specs.declared.lines.Line.{Line}
use Rattle.ebpf_one.specs.declared.how.How.{How}
use Rattle.ebpf_one.specs.Headed.{AreLinkedLines}
use Rattle.ebpf_one.specs.UnrollText.{UnrollsLinked}
use Rattle.ebpf_one.proofs.unroll.unroll_linked_lined.Goals as goal

pub returns : goal.returns
returns c = IfOk-weaker c.unroll_linked.result _ _
    (λ response h. record {
      source = record { lines = c.args.lines; holding = c.deref.result };
      lines = refl;
      are = subst (λ (holding : List (Option Line)). AreLinkedLines c.args.lines c.args.linked.function.function holding) (sym c.deref.ensures.value) c.in_ok-holding.ensures;
      told = subst (λ (how : How). UnrollsLinked c.args.format (Some how) c.args.file.now c.args.linked response) c.with_source.ensures h;
    }) c.unroll_linked.ensures
