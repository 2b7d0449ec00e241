use Rattle.std.proofs.Common.{Option, refl, sym, ◌∙◌, subst}
use Rattle.std.proofs.lemmas.Result.{IfOk-weaker}
use Rattle.ebpf_one.specs.declared.headed.Headed.{Headed}
use Rattle.ebpf_one.specs.declared.how.How.{How}
use Rattle.ebpf_one.specs.OneText.{RespondsHeaded, RespondsRun}
use Rattle.ebpf_one.proofs.answer.answer_copied.Goals as goal

pub returns : goal.returns
returns c =
    let s = c.args.verified.now in
    let source : Headed = record { lines = c.in-Some.headed.lines; holding = c.deref.result } in
    IfOk-weaker c.answer_verified-2.result _ _
    (λ response h. subst (λ (known : Option Headed). RespondsHeaded c.args.format s c.args.of.now c.args.context.items c.args.how known response) (sym c.in-Some.is) (
      source,
      refl,
      c.deref.ensures.value ∙ c.in_ok-holding.ensures,
      subst (λ (how : How). RespondsRun c.args.format s c.args.context.items how response) c.with_source.ensures h,
    ))
    c.answer_verified-2.ensures
