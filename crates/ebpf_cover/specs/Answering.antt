-- What is said of a store that answers as a report says: any call may be answered anything, and nothing is known of shelves.
use Rattle.ebpf_shelves.specs.declared.object.Object.{Object}
use Rattle.ebpf_machine.specs.Kinds.{known_kinds}
use Rattle.ebpf_machine.specs.Store.{Store}
use Rattle.ebpf_shelves.specs.Store.{IsOut, out_of_kind}
use Rattle.ebpf_cover.specs.declared.replaying.Replaying.{Replaying}

abbrev pub answering : Store Replaying Object
answering = record {
  kinds = known_kinds;
  kind_of = λ o. o.kind;
  slot_of = λ o. o.slot;
  is_out = λ s o. IsOut s.inner.table.items o;
  bytes_of = λ s o. o.bytes.items;
  can_grant = λ s kind at slot. Unit {0};
  can_refuse = λ s kind. Unit {0};
  can_fetch = λ s shelf slot bytes. Unit {0};
  can_miss = λ s shelf. Unit {0};
  stand = λ s shelf what. ⊥;
  can_give = λ s. Unit {0};
  outs = λ s kind. out_of_kind s.inner.table.items kind;
  goes = λ s told t. Unit {0};
  stays = λ s. tt;
  goes_on = λ s t u told more first then. tt;
}
