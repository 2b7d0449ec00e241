-- What is known before a slot, as the words of a line, each with two blanks before it.
use Rattle.std.specs.Prelude.{ℕ, List, ◌++◌}
use Rattle.std.specs.List.{flat_map}
use Rattle.ebpf_state.specs.declared.kinds.KindRow.{KindRow}
use Rattle.ebpf_state.specs.StateView.{StateView}
use Rattle.ebpf_explain.specs.Registers.{all_registers, known_register}
use Rattle.ebpf_explain.specs.StackWords.{texts_below, known_word}
use Rattle.ebpf_explain.specs.Held.{held_word}

-- the registers that are set, the words of the stack of which something is known, and the references that are held
abbrev pub known_words : StateView → List KindRow → List ℕ
known_words s rows = flat_map (known_register s) all_registers ++ (texts_below 64 (known_word s.words) ++ flat_map (held_word rows) s.held)
