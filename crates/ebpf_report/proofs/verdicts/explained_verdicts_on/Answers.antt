use Rattle.std.proofs.Common.{List, map, string_bytes, refl, ap, subst}
use Rattle.ebpf_reader.specs.ParsedScript.{Named}
use Rattle.ebpf_reader.specs.ReadScripts.{named}
use Rattle.ebpf_report.specs.Explained.{Explained}
use Rattle.ebpf_report.specs.ExplainedKept.{IsOneMore}
use Rattle.ebpf_report.specs.Verdicts.{Verdict}
use Rattle.ebpf_report.proofs.ExplainedLemmas.{AreExplainedBefore, explained_next}
use Rattle.ebpf_report.proofs.verdicts.explained_verdicts_on.Goals as goal

pub loop-name-preserved : goal.loop-name-preserved
loop-name-preserved c =
    let program = c.in-Some.program.now in
    let more : IsOneMore c.args.format c.args.explain (string_bytes c.in-Some.name.now) program.bytes.items program.decl c.kinds-kinds.result c.loop-name.verdicts c.add_on.new.self = rw (← c.as_str.ensures.value) c.in_ok-add_on.ensures in
    let verdict : Verdict = record {
      program = named (c.in-Some.name.now, program);
      decl = program.decl;
      rows = c.kinds-kinds.result;
      judged = more.judged;
      context = refl;
      held = refl;
      kinds = c.kinds-kinds.ensures;
      is = more.is_judged;
    } in
    let explained : Explained c.args.explain = record { verdict = verdict; why = more.why; is = more.is_told } in
    let left = ap (map named) c.in-Some.ensures.steps in
    let before = subst (λ (xs : List Named). AreExplainedBefore c.args.format c.args.explain (map named c.args.programs.now.entries) xs c.loop-name.verdicts) left c.loop-name.invariant in
    explained_next c.args.format (map named c.args.programs.now.entries) (map named c.next.new.self) c.loop-name.verdicts c.add_on.new.self explained before more.text more.accepted more.refused
