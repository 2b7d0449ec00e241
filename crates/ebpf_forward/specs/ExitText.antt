-- What a branch compares that leads out of a loop, first and last.
use Rattle.std.specs.Prelude.{ℕ, ◌++◌, List, [], codes, decimal, Option, Some, None}
use Rattle.ebpf_insn.specs.declared.insn.Insn.{Insn}
use Rattle.ebpf_insn.specs.declared.insn.Insn.TheVariants as insn
use Rattle.ebpf_insn.specs.declared.insn.Source.{Source}
use Rattle.ebpf_insn.specs.declared.insn.Source.TheVariants.{Register, Imm}
use Rattle.ebpf_insn.specs.declared.register.Reg.{Reg}
use Rattle.ebpf_insn.specs.Program.{insn_at}
use Rattle.ebpf_insn.specs.Registers.{number_of}
use Rattle.ebpf_state.specs.declared.value.Abs.{Abs}
use Rattle.ebpf_text.specs.Listing.{insn_text}
use Rattle.ebpf_explain.specs.Values.{value_text}
use Rattle.ebpf_unroll.specs.declared.long_loop.LoopExit.{LoopExit}

-- what a register was, and is
abbrev pub change_of : Reg → Abs → Abs → List ℕ
change_of register first last =
    codes "r" ++ (decimal (number_of register) ++ (codes " was " ++ (value_text first ++ (codes ", and is " ++ value_text last))))

abbrev pub right_change : Source → LoopExit → List ℕ
right_change (Register right) exit = codes "; " ++ change_of right exit.first.right exit.last.right
right_change (Imm n) exit = []

-- how the registers change that a branch compares
abbrev pub changes : Insn → LoopExit → List ℕ
changes (insn.Branch width condition left right offset) exit = change_of left exit.first.left exit.last.left ++ right_change right exit
changes _ exit = []

-- what the instruction of its slot compares
abbrev pub exit_at : LoopExit → Option Insn → List ℕ
exit_at exit None = []
exit_at exit (Some i) = codes "slot " ++ (decimal exit.slot ++ (codes ", " ++ (insn_text i ++ (codes ", leads out of it: " ++ changes i exit))))

abbrev pub exit_in : List (Option Insn) → LoopExit → List ℕ
exit_in p exit = exit_at exit (insn_at p exit.slot)
