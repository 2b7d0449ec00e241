use Rattle.std.proofs.Common.{rules}
use Rattle.ebpf_machine.proofs.memory.load_from.Goals as goal

pub load_context-requires : goal.load_context-requires
load_context-requires g c = let fine = c.requires.loads.1 in search rules

pub returns-in-Context : goal.returns-in-Context
returns-in-Context g c = λ kinds. let is = c.load_context.ensures in search rules
