use Rattle.ebpf_insn.proofs.ProgramBytes.{same_program, no_decode_fault, back_again}
use Rattle.ebpf_insn.proofs.decode.bytes_encode_one_program.Goals as goal

pub returns-clause-one : goal.returns-clause-one
returns-clause-one c = same_program

pub returns-clause-fine : goal.returns-clause-fine
returns-clause-fine c = no_decode_fault

pub returns-clause-back : goal.returns-clause-back
returns-clause-back c = back_again
