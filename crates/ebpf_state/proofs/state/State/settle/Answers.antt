use Rattle.std.proofs.Common.{refl}
use Rattle.ebpf_state.specs.References.{settled_word}
use Rattle.ebpf_state.proofs.Stacks.{all_words-map}
use Rattle.ebpf_state.proofs.state.State.settle.Goals as goal

pub returns : goal.returns
returns c =
    let was = c.deref_mut-facts.ensures.value in
    rw (← c.self.view_is, c.settle_registers.ensures, c.settle_words.ensures.value, c.settle_held.ensures.value, was, all_words-map (settled_word c.args.call c.args.null) c.self.inside.facts.value.words.items refl) refl
