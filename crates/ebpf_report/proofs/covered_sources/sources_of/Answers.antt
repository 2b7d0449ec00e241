use Rattle.std.proofs.Common.{List, map, ap, subst}
use Rattle.ebpf_lines.specs.Sources.{IsSourceIn}
use Rattle.ebpf_reader.specs.ParsedScript.{Named}
use Rattle.ebpf_reader.specs.ReadScripts.{named}
use Rattle.ebpf_report.proofs.SourcesLemmas.{AreSourcesBefore, one_before, all_before}
use Rattle.ebpf_report.proofs.covered_sources.sources_of.Goals as goal

pub loop-program-preserved : goal.loop-program-preserved
loop-program-preserved c =
    let programs = map named c.args.programs.now.entries in
    let p = named (c.in-Some.field-0-0.now, c.in-Some.program.now) in
    let before = subst (λ (left : List Named). AreSourcesBefore c.args.object programs left c.loop-program.sources.items) (ap (map named) c.in-Some.ensures.steps) c.loop-program.invariant in
    let here : IsSourceIn c.args.object p.bytes c.in_ok-source_in.field-0 = rw (← c.deref.ensures.value) c.in_ok-source_in.ensures in
    one_before c.args.object programs (map named c.next.new.self) p c.in_ok-source_in.field-0 c.loop-program.sources.items c.push.new.self.items before here c.in_ok-push.ensures.items

pub returns : goal.returns
returns c =
    all_before c.args.object (map named c.args.programs.now.entries) (map named c.loop-program.program-iterator) c.loop-program.sources.items
    (ap (map named) c.in-None.ensures.steps.0) c.loop-program.invariant
