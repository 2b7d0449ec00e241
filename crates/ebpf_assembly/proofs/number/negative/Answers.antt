use Rattle.std.proofs.Common.{arith, rules, ◌-◌}
use Rattle.std.proofs.lemmas.Int.{ints}
use Rattle.ebpf_assembly.proofs.number.negative.Goals as goal

pub returns : goal.returns
returns c = (search rules, (c.args.size - 1, omega arith, omega (arith, ints)))
