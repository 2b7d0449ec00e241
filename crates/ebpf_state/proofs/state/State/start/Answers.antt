use Rattle.std.proofs.Common.{List, refl, subst, sym, arith}
use Rattle.std.specs.Prelude.{All, map}
use Rattle.std.proofs.lemmas.List.Elements.{All-nil}
use Rattle.ebpf_state.specs.declared.held.Held.{Held}
use Rattle.ebpf_state.specs.declared.state.Facts.{Facts}
use Rattle.ebpf_state.specs.Ascending.{IsAscending}
use Rattle.ebpf_state.specs.Words.{IsProperWord}
use Rattle.ebpf_state.specs.StateView.{AreFacts}
use Rattle.ebpf_state.proofs.state.State.start.Goals as goal

pub invariant_of-result : goal.invariant_of-result
invariant_of-result c =
    subst (λ (f : Facts). AreFacts f.registers f.words.items f.held.items) (sym c.in_ok-new.ensures.ok)
    (record {
      registers_are = refl;
      few = omega arith;
      proper = subst (All IsProperWord) (sym c.new.ensures.items) (All-nil IsProperWord);
      ascending = subst (λ (hs : List Held). IsAscending (map (λ (h : Held). h.call) hs)) (sym c.new-2.ensures.items) tt;
    })
