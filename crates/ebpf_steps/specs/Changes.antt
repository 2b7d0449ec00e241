-- What an instruction changed, by the registers and the output of its run after it.
use Rattle.std.specs.Prelude.{ℕ, ℤ, ◌-◌, ◌^◌, ◌%◌, ◌+ℤ◌, List, length, Option, Some, None, slice_get}
use Rattle.ebpf_insn.specs.declared.register.Reg.{Reg}
use Rattle.ebpf_insn.specs.declared.register.Reg.TheVariants.{R0}
use Rattle.ebpf_insn.specs.declared.insn.Insn.{Insn}
use Rattle.ebpf_insn.specs.declared.insn.Insn.TheVariants as insn
use Rattle.ebpf_insn.specs.declared.insn.Size.{Size}
use Rattle.ebpf_insn.specs.declared.insn.Size.TheVariants as size
use Rattle.ebpf_insn.specs.declared.insn.Width.TheVariants.{W64}
use Rattle.ebpf_operation.specs.declared.helper.Helper.{Helper}
use Rattle.ebpf_operation.specs.declared.helper.Helper.TheVariants as helper
use Rattle.ebpf_operation.specs.Helpers.{helper_of}
use Rattle.ebpf_machine.specs.declared.value.Value.{Value}
use Rattle.ebpf_machine.specs.declared.value.Value.TheVariants.{Number, Pointer}
use Rattle.ebpf_machine.specs.Values.{Frame, read, source_value}
use Rattle.ebpf_machine.specs.RunState.{RunState, frame_with}
use Rattle.ebpf_steps.specs.declared.change.Change.{Change}
use Rattle.ebpf_steps.specs.declared.change.Change.TheVariants.{Nothing, Register, Memory, Output}

-- what a run owns alone
abbrev pub frame_of : {H : Type 0} → RunState H → Frame ℕ
frame_of r = frame_with r.registers r.stack r.output

-- a register that is set
abbrev pub set_to : Reg → Option (Value ℕ) → Change
set_to r None = Nothing
set_to r (Some v) = Register r v

-- ---- stores

-- the low bytes of a number, as many as a store has
abbrev pub low_bytes : Size → ℕ → ℕ
low_bytes size.B n = n % 2 ^ 8
low_bytes size.H n = n % 2 ^ 16
low_bytes size.W n = n % 2 ^ 32
low_bytes size.D n = n

-- a pointer is stored as a whole
abbrev pub stored : Size → Value ℕ → Value ℕ
stored s (Number n) = Number (low_bytes s n)
stored s (Pointer base k) = Pointer base k

-- through a pointer, at an offset from it
abbrev pub written_through : Value ℕ → ℤ → Value ℕ → Change
written_through (Number n) offset v = Nothing
written_through (Pointer base k) offset v = Memory base (k +ℤ offset) v

abbrev pub written : Size → ℤ → Option (Value ℕ) → Option (Value ℕ) → Change
written s offset None v = Nothing
written s offset (Some pointer) None = Nothing
written s offset (Some pointer) (Some v) = written_through pointer offset (stored s v)

-- ---- calls

abbrev pub last_of : List ℕ → Option ℕ
last_of numbers = slice_get numbers (length numbers - 1)

abbrev pub emitted : Option ℕ → Option (Value ℕ) → Change
emitted None result = Nothing
emitted (Some n) None = Nothing
emitted (Some n) (Some v) = Output n v

abbrev pub called : Option Helper → Frame ℕ → Change
called (Some helper.Emit) frame = emitted (last_of frame.output) (read frame R0)
called (Some helper.New) frame = set_to R0 (read frame R0)
called (Some helper.Free) frame = set_to R0 (read frame R0)
called (Some helper.Swap) frame = set_to R0 (read frame R0)
called None frame = set_to R0 (read frame R0)

-- ---- any instruction

-- the register that it sets, or what it stores: a store leaves the registers as they are
abbrev pub changed : Insn → Frame ℕ → Change
changed (insn.Alu width op dst src) frame = set_to dst (read frame dst)
changed (insn.Sext width bits dst src) frame = set_to dst (read frame dst)
changed (insn.Neg width dst) frame = set_to dst (read frame dst)
changed (insn.Swap order bits dst) frame = set_to dst (read frame dst)
changed (insn.Wide dst value) frame = set_to dst (read frame dst)
changed (insn.Load size signed dst base offset) frame = set_to dst (read frame dst)
changed (insn.Store size base offset src) frame = written size offset (read frame base) (source_value frame W64 src)
changed (insn.Jump offset) frame = Nothing
changed (insn.JumpFar offset) frame = Nothing
changed (insn.Branch width condition left right offset) frame = Nothing
changed (insn.Call number) frame = called (helper_of number) frame
changed insn.Exit frame = Nothing
