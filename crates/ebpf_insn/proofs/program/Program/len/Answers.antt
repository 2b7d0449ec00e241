use Rattle.std.proofs.Common.{arith}
use Rattle.ebpf_insn.proofs.ProgramLemmas.{instructions-length}
use Rattle.ebpf_insn.proofs.program.Program.len.Goals as goal

pub returns-clause-bound : goal.returns-clause-bound
returns-clause-bound c = omega (arith, instructions-length c.self.inside.slots.items, c.self.invariant.0.few, c.self.invariant.1)
