-- An exchange keeps the laws of swap.
use Rattle.std.proofs.Common.{◌≡◌, refl}
use Rattle.owners_table.specs.Owning.{Holds}
use Rattle.ebpf_object.specs.Object.{kind_of, slot_of}
use Rattle.ebpf_owned.proofs.Passing.{slots, whatever, even_none, is_held, is_apart, is_gone, is_still_held, first_of}
use Rattle.worker_pool.proofs.Passing.{swapped_goes}
use Rattle.worker_pool.proofs.store.StoreObjects.TheImpl.Goals as goal

pub swap-tells : goal.swap-tells
swap-tells g c =
    let e = c.ensures in
    let held = c.args.self.now.client.seat.held in
    let given = first_of c.args.given (λ o. Holds (slot_of o) held) (λ o. kind_of o ≡ c.args.shelf) c.requires.given in record {
      fetched = whatever c.result;
      missed = even_none c.result;
      out = is_held (slots c.args.given) c.result c.args.shelf _ held _ e.seat e.kind;
      apart = is_apart (slots c.args.given) c.result _ held _ e.seat;
      goes = swapped_goes _ _ c.result e.goes;
      outs = e.outs;
      gone = is_gone c.args.given (slots c.result) _ held _ given c.args.self.now.client.once e.seat;
      shelves = (λ what stood. absurd stood, λ other what apart stood. absurd stood);
      others = λ other now apart. (is_still_held c.args.given (slots c.result) _ other held _ given e.seat now apart, refl);
    }
