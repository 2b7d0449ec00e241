use Rattle.std.proofs.Common.{◌-◌, Some, ap, sym, arith}
use Rattle.std.specs.Prelude.{is_none}
use Rattle.ebpf_layout.proofs.Placed.{before_one}
use Rattle.ebpf_layout.proofs.placing.before.Goals as goal

pub returns-in-Some-clause-only : goal.returns-in-Some-clause-only
returns-in-Some-clause-only c from falls =
    ap Some (before_one c.args.program.now from c.args.slot (c.args.slot - 1) c.requires falls (omega arith) (ap is_none (sym c.in-Some.ensures)))
