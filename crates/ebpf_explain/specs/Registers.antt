-- What is known of the registers, as text.
use Rattle.std.specs.Prelude.{ℕ, if◌then◌else◌, List, [], ◌∷◌, ◌++◌, codes}
use Rattle.ebpf_insn.specs.declared.register.Reg.{Reg}
use Rattle.ebpf_insn.specs.declared.register.Reg.TheVariants.{R0, R1, R2, R3, R4, R5, R6, R7, R8, R9, R10}
use Rattle.ebpf_text.specs.Operands.{register_text}
use Rattle.ebpf_state.specs.declared.value.Abs.{Abs}
use Rattle.ebpf_state.specs.Abstract.{is_unset}
use Rattle.ebpf_state.specs.StateView.{StateView}
use Rattle.ebpf_state.specs.States.{register_of}
use Rattle.ebpf_explain.specs.Values.{value_text}

abbrev pub all_registers : List Reg
all_registers = R0 ∷ R1 ∷ R2 ∷ R3 ∷ R4 ∷ R5 ∷ R6 ∷ R7 ∷ R8 ∷ R9 ∷ R10 ∷ []

-- a register with its value; one that is not set has no word
abbrev pub register_word : Reg → Abs → List ℕ
register_word r value = if is_unset value then [] else codes "  " ++ (register_text r ++ (codes " " ++ value_text value))

-- the word of a register of a state
abbrev pub known_register : StateView → Reg → List ℕ
known_register s r = register_word r (register_of s r)
