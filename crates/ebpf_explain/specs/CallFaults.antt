-- What a call or an exit does that it may not, as text.
use Rattle.std.specs.Prelude.{ℕ, ℤ, List, ◌++◌, codes, decimal}
use Rattle.std.specs.List.{flat_map}
use Rattle.std.specs.Fmt.{signed_decimal}
use Rattle.ebpf_insn.specs.declared.register.Reg.{Reg}
use Rattle.ebpf_insn.specs.declared.register.Reg.TheVariants.{R0}
use Rattle.ebpf_state.specs.declared.held.Held.{Held}
use Rattle.ebpf_state.specs.declared.kinds.KindRow.{KindRow}
use Rattle.ebpf_state.specs.StateView.{StateView}
use Rattle.ebpf_explain.specs.Registers.{known_register}
use Rattle.ebpf_explain.specs.Held.{held_word}
use Rattle.ebpf_explain.specs.Reads.{fault_with_reads}

abbrev pub helper_text : ℤ → List ℕ
helper_text number = codes "calls helper " ++ signed_decimal number

abbrev pub no_helper : ℤ → List ℕ
no_helper number = helper_text number ++ codes ", which does not exist"

-- a call, and what is wrong with the registers that it reads
abbrev pub call_with : ℤ → List ℕ → StateView → List Reg → List ℕ
call_with number fault s arguments = helper_text number ++ fault_with_reads fault s arguments

abbrev pub too_many_held : ℕ → List ℕ
too_many_held held = codes "asks for an object while holding " ++ (decimal held ++ codes ", the most the program declares")

abbrev pub held_at_exit : List Held → List KindRow → List ℕ
held_at_exit held rows = codes "exits while holding objects," ++ flat_map (held_word rows) held

abbrev pub no_number_at_exit : StateView → List ℕ
no_number_at_exit s = codes "exits with" ++ (known_register s R0 ++ codes ", which is not a number")
