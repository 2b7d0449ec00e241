use Rattle.std.proofs.Common.{◌∙◌, length-set, set, subst, sym}
use Rattle.ebpf_state.specs.declared.state.Facts.{Facts}
use Rattle.ebpf_state.specs.StateView.{AreFacts}
use Rattle.ebpf_state.proofs.state.State.set.Goals as goal

pub invariant_of-self : goal.invariant_of-self
invariant_of-self c =
    subst (λ (f : Facts). AreFacts (set f.registers c.number-number.result c.args.value) f.words.items f.held.items) (sym c.deref_mut.ensures.value)
    (record {
      registers_are = length-set c.self.inside.facts.value.registers c.number-number.result c.args.value ∙ c.self.invariant.registers_are;
      few = c.self.invariant.few;
      proper = c.self.invariant.proper;
      ascending = c.self.invariant.ascending;
    })
