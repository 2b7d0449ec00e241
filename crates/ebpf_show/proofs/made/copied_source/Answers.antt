use Rattle.std.proofs.Common.{refl}
use Rattle.ebpf_show.proofs.made.copied_source.Goals as goal

pub returns-in-Some : goal.returns-in-Some
returns-in-Some c =
    let old = c.in-Some.source in
    rw c.in-Some.is (record { lines = old.lines; holding = c.args.holding; listed = old.listed }, refl, refl, refl, refl)
