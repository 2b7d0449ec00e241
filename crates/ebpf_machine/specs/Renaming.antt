-- Values whose objects have other names.
use Rattle.std.specs.Prelude.{map, Option, Some, None}
use Rattle.ebpf_machine.specs.declared.value.Value.{Value}
use Rattle.ebpf_machine.specs.declared.value.Value.TheVariants.{Number, Pointer}
use Rattle.ebpf_machine.specs.declared.value.Base.{Base}
use Rattle.ebpf_machine.specs.declared.value.Base.TheVariants.{Stack, Context, Object}
use Rattle.ebpf_machine.specs.declared.value.Cell.{Cell}
use Rattle.ebpf_machine.specs.declared.value.Cell.TheVariants.{Unset, Byte, Part}
use Rattle.ebpf_machine.specs.Values.{Frame}

abbrev pub base_renamed : {N M : Type 0} → (N → M) → Base N → Base M
base_renamed to Stack = Stack
base_renamed to Context = Context
base_renamed to (Object name) = Object (to name)

abbrev pub value_renamed : {N M : Type 0} → (N → M) → Value N → Value M
value_renamed to (Number n) = Number n
value_renamed to (Pointer base k) = Pointer (base_renamed to base) k

abbrev pub register_renamed : {N M : Type 0} → (N → M) → Option (Value N) → Option (Value M)
register_renamed to None = None
register_renamed to (Some v) = Some (value_renamed to v)

abbrev pub cell_renamed : {N M : Type 0} → (N → M) → Cell N → Cell M
cell_renamed to Unset = Unset
cell_renamed to (Byte b) = Byte b
cell_renamed to (Part v j) = Part (value_renamed to v) j

abbrev pub frame_renamed : {N M : Type 0} → (N → M) → Frame N → Frame M
frame_renamed to frame = record { registers = map (register_renamed to) frame.registers; stack = map (cell_renamed to) frame.stack; output = frame.output }
