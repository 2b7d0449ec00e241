use Rattle.ebpf_one.proofs.DataLists.{use_written}
use Rattle.ebpf_one.proofs.data_list.write_address.Goals as goal

pub returns : goal.returns
returns c = use_written c.write_use.result _ _ _ _ _ _ c.number.ensures.value c.in_ok-write.ensures.bytes c.write_use.ensures
