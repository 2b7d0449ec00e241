use Rattle.std.proofs.Common.{refl}
use Rattle.ebpf_one.proofs.running.run_of.Goals as goal

pub returns-in-Some : goal.returns-in-Some
returns-in-Some c = rw (c.in-Some.is) (record { context = c.args.context; how = c.in-Some.how }, refl, refl, refl)
