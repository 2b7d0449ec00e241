use Rattle.std.proofs.Common.{refl}
use Rattle.ebpf_object_file.specs.declared.object_fault.ObjectFault.TheVariants.{File}
use Rattle.ebpf_host_c.proofs.functions.ebpf_elf_functions.Goals as goal

pub returns-in-Err-report_fault-clause-memory : goal.returns-in-Err-report_fault-clause-memory
returns-in-Err-report_fault-clause-memory c = λ wanting. (File c.in-Err.fault, (c.in-Err.fault, refl, c.in-Err.ensures.refused))
