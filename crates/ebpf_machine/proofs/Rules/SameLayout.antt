-- The verifier's layout is the machine's.
use Rattle.std.proofs.Common.{◌≡◌, ℕ, ℤ, refl}
use Rattle.ebpf_insn.specs.declared.register.Reg.{Reg}
use Rattle.ebpf_insn.specs.declared.insn.Size.{Size}
use Rattle.ebpf_insn.specs.declared.insn.Width.{Width}
use Rattle.ebpf_insn.specs.declared.insn.Cond.{Cond}
use Rattle.ebpf_insn.specs.declared.insn.Source.{Source}
use Rattle.ebpf_state.specs.Stack as stack
use Rattle.ebpf_verify.specs.Operations as operations
use Rattle.ebpf_verify.specs.Branches as branches
use Rattle.ebpf_operation.specs.Helpers as calls
use Rattle.ebpf_machine.specs.Layout as machine

pub same_bytes : (size : Size) → stack.bytes_in size ≡ machine.bytes_in size
same_bytes size = refl

pub same_place : (offset : ℤ) (bytes : ℕ) → stack.place_of offset bytes ≡ machine.place_of offset bytes
same_place offset bytes = refl

pub same_word : (place bytes : ℕ) → stack.is_whole_word place bytes ≡ machine.is_whole_word place bytes
same_word place bytes = refl

pub same_frame_pointer : (r : Reg) → operations.is_frame_pointer r ≡ machine.is_frame_pointer r
same_frame_pointer r = refl

pub same_null_test : (width : Width) (condition : Cond) (right : Source)
    → branches.compares_with_null width condition right ≡ machine.compares_with_null width condition right
same_null_test width condition right = refl

pub same_helper : (number : ℤ) → calls.helper_of number ≡ machine.helper_of number
same_helper number = refl
