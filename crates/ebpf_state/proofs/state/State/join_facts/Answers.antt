use Rattle.std.proofs.Common.{◌∙◌, ◌++◌, ℕ, List, ap, arith, drop, length, subst, sym, take}
use Rattle.std.proofs.Math.Seq.{take-append_seam}
use Rattle.ebpf_state.specs.Abstract.{joined_value}
use Rattle.ebpf_state.specs.StateView.{AreFacts}
use Rattle.ebpf_state.specs.declared.state.Facts.{Facts}
use Rattle.std.specs.Prelude.{map}
use Rattle.ebpf_state.specs.Ascending.{IsAscending}
use Rattle.ebpf_state.specs.declared.held.Held.{Held}
use Rattle.ebpf_state.specs.declared.word.Word.{Word}
use Rattle.ebpf_state.proofs.JoinLists.{joined_list-length}
use Rattle.ebpf_state.proofs.state.State.join_facts.Goals as goal

pub invariant_of-self : goal.invariant_of-self
invariant_of-self c =
    let mine = ap (λ (f : Facts). length f.registers) c.deref_mut-here.ensures.value ∙ c.self.invariant.registers_are in
    let theirs = ap (λ (f : Facts). length f.registers) c.deref-there.ensures ∙ c.other.invariant.registers_are in
    let my_words = ap (λ (f : Facts). length f.words.items) c.deref_mut-here.ensures.value in
    let long = c.join_words.ensures.len ∙ (ap length c.deref_mut.ensures.value ∙ my_words) in
    let written = c.join_words.new.left ++ drop (length c.join_words.new.left) c.deref_mut-here.result.now.words.items in
    let kept = ap (λ (n : ℕ). take n written) (sym (c.join_words.ensures.len ∙ c.deref_mut.ensures.len)) ∙ take-append_seam c.join_words.new.left (drop (length c.join_words.new.left) c.deref_mut-here.result.now.words.items) in
    subst (λ (ws : List Word). AreFacts c.join_registers.new.left ws c.deref_mut-here.result.now.held.items) (sym kept)
    (record {
      registers_are = ap length c.join_registers.ensures ∙ (joined_list-length joined_value _ _ (mine ∙ sym theirs) ∙ mine);
      few = omega (arith, long, c.self.invariant.few);
      proper = c.join_words.ensures.proper;
      ascending = subst (λ (f : Facts). IsAscending (map (λ (h : Held). h.call) f.held.items)) (sym c.deref_mut-here.ensures.value) c.self.invariant.ascending;
    })
