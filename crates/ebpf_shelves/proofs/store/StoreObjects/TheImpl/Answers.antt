-- An exchange keeps the laws of swap.
use Rattle.std.proofs.Common.{refl}
use Rattle.ebpf_shelves.proofs.Shelving.{fetched, missed, left, left_elsewhere}
use Rattle.ebpf_shelves.proofs.Granting.{swapped_goes}
use Rattle.ebpf_shelves.proofs.Standing.{swapped}
use Rattle.ebpf_shelves.proofs.store.StoreObjects.TheImpl.Goals as goal

pub swap-tells : goal.swap-tells
swap-tells c =
    let e = c.ensures in
    let x = e.exchanged in
    let old = c.args.self.now in
    let s = swapped old.table.items c.new.self.now.table.items x old.standing c.requires.given e.table in record {
      fetched = fetched x;
      missed = missed x;
      out = s.out;
      apart = s.apart;
      goes = swapped_goes _ _ _ _ _ _ c.result e.slots e.stays;
      outs = s.counted;
      gone = s.gone;
      shelves = (left x, left_elsewhere x);
      others = λ other out ne. (s.others other out ne, refl);
    }
