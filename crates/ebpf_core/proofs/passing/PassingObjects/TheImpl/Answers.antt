-- An exchange keeps the laws of swap.
use Rattle.std.proofs.Common.{refl}
use Rattle.ebpf_shelves.proofs.Shelving.{fetched, missed, left, left_elsewhere}
use Rattle.ebpf_core.proofs.Shelving.{swapped}
use Rattle.ebpf_core.proofs.passing.PassingObjects.TheImpl.Goals as goal

pub swap-tells : goal.swap-tells
swap-tells c =
    let e = c.ensures in
    let x = e.exchanged in
    let s = swapped c.args.self.now.object c.new.self.now.object e.object x c.args.self.now.away in record {
      fetched = fetched x;
      missed = missed x;
      out = s.out;
      apart = s.apart;
      goes = tt;
      outs = s.counted;
      gone = s.gone;
      shelves = (left x, left_elsewhere x);
      others = λ other out ne. (s.others other out ne, refl);
    }
