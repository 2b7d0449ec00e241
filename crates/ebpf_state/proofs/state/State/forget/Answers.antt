use Rattle.std.proofs.Common.{refl}
use Rattle.ebpf_state.specs.References.{forgotten_word}
use Rattle.ebpf_state.proofs.Stacks.{all_words-map}
use Rattle.ebpf_state.proofs.state.State.forget.Goals as goal

pub returns : goal.returns
returns c =
    let was = c.deref_mut-facts.ensures.value in
    rw (← c.self.view_is, c.forget_registers.ensures, c.forget_words.ensures.value, c.forget_held.ensures.value, was, all_words-map (forgotten_word c.args.call) c.self.inside.facts.value.words.items refl) refl
