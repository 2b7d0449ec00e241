use Rattle.std.proofs.Common.{refl}
use Rattle.ebpf_host_c.proofs.totals.all_told.Goals as goal

pub returns : goal.returns
returns c = record {
  told = λ all are. record {
    all = all;
    totals = c.args.totals;
    are = are;
    cells = rw (c.told.ensures, are.kinds) refl;
    records = rw (c.told-2.ensures, are.kinds) refl;
    blocks = rw (c.told-3.ensures, are.kinds) refl;
    clashes = refl;
    strays = refl;
  };
}
