use Rattle.std.proofs.Common.{List, Option, refl, sym, subst}
use Rattle.std.proofs.lemmas.Result.{IfOk-weaker}
use Rattle.ebpf_object_file.specs.declared.lines.Line.{Line}
use Rattle.ebpf_input.specs.DataRequest.{asked_by}
use Rattle.ebpf_one.specs.declared.how.How.{How}
use Rattle.ebpf_one.specs.Headed.{AreLinkedLines}
use Rattle.ebpf_one.specs.OneText.{RespondsBytes}
use Rattle.ebpf_one.proofs.sourced_run.answer_linked_lined.Goals as goal

pub returns : goal.returns
returns c = IfOk-weaker c.answer_request.result _ _
    (λ response h. record {
      source = record { lines = c.args.lines; holding = c.deref.result };
      lines = refl;
      are = subst (λ (holding : List (Option Line)). AreLinkedLines c.args.lines c.args.linked.function.function holding) (sym c.deref.ensures.value) c.in_ok-holding.ensures;
      told = subst (λ (how : How). RespondsBytes c.args.format (asked_by c.args.linked) how response) c.with_source.ensures h;
    }) c.answer_request.ensures
