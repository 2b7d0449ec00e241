use Rattle.ebpf_object_file.proofs.Objects.{object_of, fault_free}
use Rattle.ebpf_object_file.proofs.header.header_is_object.Goals as goal

pub returns-clause-fine : goal.returns-clause-fine
returns-clause-fine c = object_of

pub returns-clause-back : goal.returns-clause-back
returns-clause-back c = fault_free
