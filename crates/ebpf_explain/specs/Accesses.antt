-- What a load or a store does to memory, as text.
use Rattle.std.specs.Prelude.{ℕ, pos, true, false, if◌then◌else◌, ◌==◌, List, ◌++◌, codes, decimal}
use Rattle.ebpf_insn.specs.declared.register.Reg.TheVariants.{R10}
use Rattle.ebpf_insn.specs.declared.insn.Size.TheVariants.{B}
use Rattle.ebpf_insn.specs.declared.insn.Insn.{Insn}
use Rattle.ebpf_insn.specs.declared.insn.Insn.TheVariants as insn
use Rattle.ebpf_text.specs.Operands.{place_text}
use Rattle.ebpf_state.specs.Stack.{bytes_in}
use Rattle.ebpf_state.specs.StateView.{StateView}
use Rattle.ebpf_explain.specs.declared.accesses.Access.{Access}
use Rattle.ebpf_explain.specs.Registers.{known_register}

-- the codes of memory refuse loads and stores alone; for any other instruction it is a byte that is read at r10
abbrev pub access_of : Insn → Access
access_of (insn.Load size signed dst base offset) = record { writes = false; size = size; base = base; offset = offset }
access_of (insn.Store size base offset src) = record { writes = true; size = size; base = base; offset = offset }
access_of _ = record { writes = false; size = B; base = R10; offset = pos 0 }

abbrev pub bytes_text : ℕ → List ℕ
bytes_text n = decimal n ++ (if n == 1 then codes " byte" else codes " bytes")

-- what is done, and to how many bytes
abbrev pub done_text : Access → List ℕ
done_text a = (if a.writes then codes "writes " else codes "reads ") ++ bytes_text (bytes_in a.size)

-- where it is done, and what is known of the base
abbrev pub reach_text : Access → StateView → List ℕ
reach_text a s = place_text a.base a.offset ++ (codes "," ++ known_register s a.base)

abbrev pub access_text : Access → StateView → List ℕ
access_text a s = done_text a ++ (codes " at " ++ reach_text a s)
