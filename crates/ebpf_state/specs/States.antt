-- The first state, reads and writes of registers, and the join of two states.
use Rattle.std.specs.Prelude.{◌≡◌, pos, List, [], ◌∷◌, Bool, true, false, ◌&&◌, ◌==◌, if◌then◌else◌, slice_index_or}
use Rattle.std.specs.Prelude.{slice_set, replicate, Option, Some, None, is_none, Result, Ok, Err}
use Rattle.std.proofs.Math.Bool.{beq}
use Rattle.ebpf_insn.specs.declared.register.Reg.{Reg}
use Rattle.ebpf_insn.specs.Registers.{number_of}
use Rattle.ebpf_state.specs.declared.value.Abs.{Abs}
use Rattle.ebpf_state.specs.declared.value.Abs.TheVariants.{Unset, Stk, Ctx}
use Rattle.ebpf_state.specs.declared.word.Word.TheVariants.{Bytes}
use Rattle.ebpf_state.specs.declared.held.Held.{Held}
use Rattle.ebpf_state.specs.declared.state.JoinFault.{JoinFault}
use Rattle.ebpf_state.specs.declared.state.JoinFault.TheVariants.{HeldDiffer, NoMemory}
use Rattle.ebpf_state.specs.Abstract.{joined_value}
use Rattle.ebpf_state.specs.Words.{joined_word}
use Rattle.ebpf_state.specs.StateView.{StateView}

-- what is known of a register
abbrev pub register_of : StateView → Reg → Abs
register_of s r = slice_index_or s.registers (number_of r) Unset

abbrev pub with_register : StateView → Reg → Abs → StateView
with_register s r value = record s { registers = slice_set s.registers (number_of r) value }

-- the state before slot 0
abbrev pub first_state : StateView
first_state = record {
  registers = Unset ∷ Ctx (pos 0) (pos 0) ∷ Unset ∷ Unset ∷ Unset ∷ Unset ∷ Unset ∷ Unset ∷ Unset ∷ Unset ∷ Stk (pos 0) ∷ [];
  words = replicate 64 (Bytes 0);
  held = [];
}

-- each element with the one at its place
abbrev pub joined_list : {X : Type 0} → (X → X → X) → List X → List X → List X
joined_list join [] ys = []
joined_list join (x ∷ xs) [] = []
joined_list join (x ∷ xs) (y ∷ ys) = join x y ∷ joined_list join xs ys

-- the same reference, tested alike
abbrev pub is_same_reference : Held → Held → Bool
is_same_reference a b = (a.call == b.call) && ((a.kind == b.kind) && beq a.tested b.tested)

abbrev pub is_same_held : List Held → List Held → Bool
is_same_held [] [] = true
is_same_held (a ∷ as') (b ∷ bs) = is_same_reference a b && is_same_held as' bs
is_same_held _ _ = false

-- the join of two states, where they hold the same references
abbrev pub joined_state : StateView → StateView → Option StateView
joined_state a b = if is_same_held a.held b.held then Some (record {
  registers = joined_list joined_value a.registers b.registers;
  words = joined_list joined_word a.words b.words;
  held = a.held;
}) else None

-- a third state joined to the join of two, where those have one
abbrev pub then_joined : Option StateView → StateView → Option StateView
then_joined (Some s) third = joined_state s third
then_joined None third = None

-- what a join answers
abbrev pub Joins : Option StateView → Result StateView JoinFault → Type 0
Joins joined (Ok s) = joined ≡ Some s
Joins joined (Err HeldDiffer) = joined ≡ None
Joins joined (Err NoMemory) = is_none joined ≡ false

-- what a join into a state answers, and leaves there
abbrev pub JoinsInto : Option StateView → StateView → StateView → Bool → Type 0
JoinsInto joined old new true = joined ≡ Some new
JoinsInto joined old new false = (joined ≡ None) × (new ≡ old)
