-- An exchange keeps the laws of swap.
use Rattle.std.proofs.Common.{refl}
use Rattle.ebpf_host.proofs.ByKind.{exchanged_counted, exchanged_others, given_gone, given_stands, got_apart, got_fetched, got_held, got_missed, shelves_stay}
use Rattle.ebpf_host.proofs.store.StocksObjects.TheImpl.Goals as goal

pub swap-tells : goal.swap-tells
swap-tells c =
    let e = c.ensures in
    let old = c.args.self.now in
    let new = c.new.self.now in
    let kind = c.args.shelf in
    let given = c.args.given in
    let got = c.result in
    let giving = c.requires.given in record {
      fetched = got_fetched old new kind e.others given got e.kind e.exchanged;
      missed = got_missed old new kind e.others given got e.exchanged;
      out = got_held old new kind e.others given got e.kind giving e.exchanged;
      apart = got_apart old new kind e.others given got e.kind e.exchanged;
      goes = e.pages;
      outs = exchanged_counted old new kind e.others given got e.exchanged;
      gone = given_gone old new kind e.others given got giving e.exchanged;
      shelves = (
        λ what stood. given_stands old new kind e.others given got giving e.exchanged,
        λ other what apart stood.
            shelves_stay old new kind e.others what other apart stood,
      );
      others = λ other now apart. (exchanged_others old new kind e.others given got giving e.exchanged other now apart, refl);
    }
