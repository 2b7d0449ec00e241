use Rattle.std.proofs.Common.{List, Option, rules, refl, subst, sym}
use Rattle.std.specs.Prelude.{Some}
use Rattle.std.proofs.lemmas.Result.{IfOk-weaker}
use Rattle.ebpf_object_file.specs.declared.lines.Line.{Line}
use Rattle.ebpf_object_file.specs.Shown.{AreHolding}
use Rattle.ebpf_one.specs.declared.headed.Headed.{Headed}
use Rattle.ebpf_one.proofs.data_list.list_lined.Goals as goal

pub returns : goal.returns
returns c =
    let headed : Headed = record { lines = c.args.lines; holding = c.deref.result } in
    let from = c.args.function.now.function.place.from in
    IfOk-weaker c.list_code.result _ _
    (λ response h. record {
      headed = headed;
      same = refl;
      whole = search rules;
      are = subst (λ (holding : List (Option Line)). AreHolding c.args.lines from holding) (sym c.deref.ensures.value) c.in_ok-holding.ensures.held;
      told = record {
        beside = record { file = c.args.file; uses = c.deref-2.result; headed = Some headed };
        file_is = refl;
        uses_are = search rules;
        headed_is = refl;
        told = h;
      };
    })
    c.list_code.ensures
