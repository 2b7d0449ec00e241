use Rattle.std.proofs.Common.{false}
use Rattle.ebpf_show.proofs.Plain.{explains_plain}
use Rattle.ebpf_show.proofs.explain.explain.Goals as goal

pub returns-clause-plain : goal.returns-clause-plain
returns-clause-plain g c =
    explains_plain c.args.ask.now (record { lines = c.args.lines; unroll = false }) c.args.ask.now.input _ _ _ _ c.respond.ensures.response c.respond.ensures.beginning
