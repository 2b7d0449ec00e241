use Rattle.std.proofs.lemmas.Result.{IfOk-weaker}
use Rattle.ebpf_lines.proofs.Sourced.{sourced}
use Rattle.ebpf_lines.proofs.source.ObjectFile.source_of.Goals as goal

pub returns-in-Some : goal.returns-in-Some
returns-in-Some c = IfOk-weaker c.lines_at.result _ _
    (sourced c.args.self.now c.args.code.now c.in-Some.coded.name.bytes.now c.in-Some.coded.number c.in-Some.coded.place c.in-Some.ensures.0 c.in-Some.ensures.1
    c.in-Some.ensures.2) c.lines_at.ensures
