use Rattle.ebpf_unroll.proofs.Writing.{none_written}
use Rattle.ebpf_unroll.proofs.copies.copies_of.Goals as goal

pub write_stub-requires-clause-written : goal.write_stub-requires-clause-written
write_stub-requires-clause-written c =
    none_written c.args.old.now c.in_ok-with_capacity.field-0.items c.in_ok-with_capacity-2.field-0.items c.in_ok-with_capacity.ensures.items
    c.in_ok-with_capacity-2.ensures.items
