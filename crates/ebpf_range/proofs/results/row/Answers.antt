use Rattle.std.proofs.Common.{rules}
use Rattle.ebpf_range.proofs.Spans.{same_ends}
use Rattle.ebpf_range.proofs.results.row.Goals as goal

pub returns : goal.returns
returns c = search (rules, same_ends)
