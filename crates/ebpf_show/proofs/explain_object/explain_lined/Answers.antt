use Rattle.std.proofs.Common.{List, Option, rules, refl, subst, sym}
use Rattle.std.proofs.lemmas.Result.{IfOk-weaker}
use Rattle.ebpf_object_file.specs.declared.lines.Line.{Line}
use Rattle.ebpf_object_file.specs.Shown.{AreHolding}
use Rattle.ebpf_show.proofs.explain_object.explain_lined.Goals as goal

pub returns : goal.returns
returns c =
    let from = c.args.function.place.from in
    IfOk-weaker c.explain_code.result _ _
    (λ response h. record {
      source = record { lines = c.args.lines; holding = c.deref.result; listed = c.args.detail.lines };
      asked = refl;
      same = refl;
      whole = search rules;
      are = subst (λ (holding : List (Option Line)). AreHolding c.args.lines from holding) (sym c.deref.ensures.value) c.in_ok-holding.ensures.held;
      told = h;
    })
    c.explain_code.ensures
