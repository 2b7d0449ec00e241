-- An exchange keeps the laws of swap: any answer may be given, and nothing is known of shelves.
use Rattle.std.proofs.Common.{refl, Option, Some, None}
use Rattle.std.specs.Prelude.{IfSome, IfNone}
use Rattle.ebpf_cover.proofs.replaying.ReplayingObjects.TheImpl.Goals as goal

any_some : {X : Type 0} (o : Option X) → IfSome o (λ x. Unit {0})
any_some None = tt
any_some (Some x) = tt

any_none : {X : Type 0} (o : Option X) → IfNone o (Unit {0})
any_none None = tt
any_none (Some x) = tt

pub swap-tells : goal.swap-tells
swap-tells g c =
    let e = c.ensures.exchanged in record {
      fetched = any_some c.result;
      missed = any_none c.result;
      out = e.out;
      apart = e.apart;
      goes = tt;
      outs = e.outs;
      gone = e.gone;
      shelves = (λ what no. no, λ other what ne no. no);
      others = λ other out ne. (e.others other out ne, refl);
    }
