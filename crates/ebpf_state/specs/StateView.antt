-- A state, as the lists of what is known.
use Rattle.std.specs.Prelude.{◌≡◌, ◌≤◌, List, length, map, All}
use Rattle.ebpf_state.specs.declared.value.Abs.{Abs}
use Rattle.ebpf_state.specs.declared.word.Word.{Word}
use Rattle.ebpf_state.specs.declared.held.Held.{Held}
use Rattle.ebpf_state.specs.Ascending.{IsAscending}
use Rattle.ebpf_state.specs.Words.{IsProperWord}

-- what is known of each register, of each word of the stack, and which references are held, in the order of their calls
pub record StateView : Type 0 where
  pub registers : List Abs
  pub words : List Word
  pub held : List Held

-- what is kept of a state: the registers, the topmost words of the stack, and the references
pub record AreFacts (registers : List Abs) (words : List Word) (held : List Held) : Type 0 where
  pub registers_are : length registers ≡ 11
  pub few : length words ≤ 64
  pub proper : All IsProperWord words
  pub ascending : IsAscending (map (λ h. h.call) held)
