use Rattle.std.proofs.Common.{arith}
use Rattle.std.proofs.lemmas.List.{length-take-le}
use Rattle.ebpf_assembly.proofs.Labelling.{all_first, some_first}
use Rattle.ebpf_assembly.proofs.label.first_labels.Goals as goal

pub returns-then-labels-le-MAX_LABELS : goal.returns-then-labels-le-MAX_LABELS
returns-then-labels-le-MAX_LABELS c = all_first 256 c.args.labels.now c.if-labels-le-MAX_LABELS.true

pub slice_bounds-result-end : goal.slice_bounds-result-end
slice_bounds-result-end c = let more = c.if-labels-le-MAX_LABELS.false in omega (arith, length-take-le 256 c.args.labels.now (omega (arith, more)))

pub returns : goal.returns
returns c = some_first 256 c.args.labels.now
