use Rattle.std.proofs.Common.{◌-◌}
use Rattle.ebpf_report.proofs.CountLemmas.{counts_there, still_ascii}
use Rattle.ebpf_report.proofs.text_line.TextLine.count_on.Goals as goal

pub invariant_of-self : goal.invariant_of-self
invariant_of-self c =
    (c.self.invariant.0, still_ascii c.self.inside.bytes c.self.inside.start (c.len.result - c.args.after - 1) _ c.self.invariant.1 c.if-self-at-ge57.false)

pub returns-clause-counted : goal.returns-clause-counted
returns-clause-counted c = λ yes.
    counts_there c.self.inside.bytes c.args.self.now c.self.inside.start c.len.result c.args.after c.self.view_is c.len.ensures c.if-self-at-ge57.false
