use Rattle.ebpf_shelves.specs.Going.{none_told}
use Rattle.ebpf_shelves.proofs.store.StoreObjects.write.Goals as goal

pub returns-clause-goes : goal.returns-clause-goes
returns-clause-goes c = none_told _
