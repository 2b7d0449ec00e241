-- An exchange keeps the laws of swap.
use Rattle.std.proofs.Common.{refl}
use Rattle.ebpf_owned.proofs.Passing.{even_none, whatever}
use Rattle.shared_store.proofs.ByKind.{exchanged_counted, exchanged_others, given_gone, got_apart, got_out, once_at, swapped_goes}
use Rattle.shared_store.proofs.store.StoreObjects.TheImpl.Goals as goal

pub swap-tells : goal.swap-tells
swap-tells c =
    let e = c.ensures in
    let old = c.args.self.now.tools in
    let new = c.new.self.now.tools in
    let kind = c.args.shelf in
    let given = c.args.given in
    let got = c.result in
    let stay = e.replies.others in
    let once = once_at old e.stocks kind in
    let out = c.requires.given in record {
      fetched = whatever got;
      missed = even_none got;
      out = got_out old new kind stay given got _ once out e.kind e.passed;
      apart = got_apart old new kind stay given got _ once out e.kind e.passed;
      goes = swapped_goes old new got e.replies.answered;
      outs = exchanged_counted old new kind stay given got _ once out e.kind e.passed;
      gone = given_gone old new kind stay given got _ once out e.kind e.passed;
      shelves = (λ what stood. absurd stood, λ other what apart stood. absurd stood);
      others = λ other now apart. (exchanged_others old new kind stay given got _ once out e.kind e.passed other now apart, refl);
    }
