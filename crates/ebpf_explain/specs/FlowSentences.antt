-- Why a program's flow is refused, as the sentence of a line.
use Rattle.std.specs.Prelude.{ℕ, ℤ, Bool, true, false, List, ◌++◌, Option, Some, None, codes, decimal}
use Rattle.ebpf_insn.specs.declared.insn.Insn.{Insn}
use Rattle.ebpf_text.specs.Operands.{offset_text}
use Rattle.ebpf_flow.specs.declared.fault.FlowCode.{FlowCode}
use Rattle.ebpf_flow.specs.declared.fault.FlowCode.TheVariants.{JumpOutside, JumpIntoWide, JumpBackward, FallsOffEnd, Unreachable}
use Rattle.ebpf_flow.specs.Edges.{displacement_of}

-- how many slots on a jump goes; what is no jump goes none
abbrev pub distance_text : Option ℤ → List ℕ
distance_text None = codes "+0"
distance_text (Some slots) = offset_text slots

abbrev pub jump_text : Insn → List ℕ
jump_text i = distance_text (displacement_of i)

-- how a jump back is mended that closes a loop, or leads to a block that is only out of order
abbrev pub backward_words : Bool → List ℕ
backward_words true = codes " slots, which closes a loop: programs only go forward: unroll the loop, as ebpf_run unroll does"
backward_words false = codes " slots, where no path leads forward to it again: programs only go forward: have lay-out put the blocks in order"

-- what is wrong with an instruction of a program that has that many slots, and how it is mended; by whether its jump closes a loop
abbrev pub flow_words : Insn → ℕ → Bool → FlowCode → List ℕ
flow_words i slots loops JumpOutside =
    codes "jumps " ++ (jump_text i ++ (codes " slots from the next one, but the program has " ++ (decimal slots ++ codes " slots: make it lead to one of them")))
flow_words i slots loops JumpIntoWide = codes "jumps " ++ (jump_text i ++ codes " slots from the next one, into the second half of a wide instruction: make it lead to an instruction")
flow_words i slots loops JumpBackward = codes "jumps back by " ++ (jump_text i ++ backward_words loops)
flow_words i slots loops FallsOffEnd = codes "continues past the last slot: end the program with exit"
flow_words i slots loops Unreachable = codes "cannot be reached from slot 0 by going forward: remove it, or make an earlier jump lead to it"

abbrev pub flow_sentence : ℕ → Insn → ℕ → Bool → FlowCode → List ℕ
flow_sentence slot i slots loops code = codes "  slot " ++ (decimal slot ++ (codes " " ++ (flow_words i slots loops code ++ codes "\n")))
