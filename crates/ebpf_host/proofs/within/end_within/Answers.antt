use Rattle.std.proofs.Common.{◌≡◌, refl, subst, arith, ◌-◌}
use Rattle.ebpf_machine.specs.Alone.{replies_from}
use Rattle.ebpf_machine.specs.RunState.{first_state_of}
use Rattle.ebpf_machine.specs.Turns.{AreTurnsWithin}
use Rattle.ebpf_machine.proofs.WholeRuns.Starts.{starts}
use Rattle.ebpf_machine.proofs.WholeRuns.Told.{under_way}
use Rattle.ebpf_machine.proofs.WholeRuns.Turning.{then_within}
use Rattle.ebpf_machine.proofs.WholeRuns.Ends.{goes_last, outs_last}
use Rattle.ebpf_host.proofs.CutOff.{within}
use Rattle.ebpf_host.proofs.Finding.{finds}
use Rattle.ebpf_host.proofs.Leaving.{leaves}
use Rattle.ebpf_host.proofs.within.end_within.Goals as goal

pub overflow_sub-left : goal.overflow_sub-left
overflow_sub-left g c = let begun = c.requires.begun in omega (arith, begun.few, begun.executed, c.executed.ensures.value)

pub run-requires-clause-out : goal.run-requires-clause-out
run-requires-clause-out g c = c.requires.begun.out

pub run-requires-clause-alone : goal.run-requires-clause-alone
run-requires-clause-alone g c = c.requires.begun.alone

pub returns : goal.returns
returns g c =
    let o = g.O.Objects.store in
    let begun = c.requires.begun in
    let run = c.args.run in
    let first = first_state_of run.subject run.context in
    let start = starts o c.args.objects.now run.subject run.context first refl (begun.sound (o.bytes_of c.args.objects.now)) in
    let left : c.args.limit - c.executed.result ≡ c.args.limit - begun.number = rw (c.executed.ensures.value, begun.executed) refl in
    let more : AreTurnsWithin o (c.args.limit - begun.number) run c.run.new.self c.args.objects.now c.run.new.objects =
    subst (λ (n : _). AreTurnsWithin o n run c.run.new.self c.args.objects.now c.run.new.objects) left c.run.ensures.turns in
    let turns = then_within c.args.limit begun.few begun.turns (omega (arith, begun.executed)) more in
    let was = under_way o _ _ _ _ _ turns.number first c.run.new.self g.met.O.Objects.has_size c.requires.kinds start turns.turns in
    let end = c.end_in_place.ensures in
    record {
      report = within o _ _ _ _ _ c.args.limit first c.run.new.self c.end_in_place.result refl was turns end;
      goes = goes_last o _ _ _ c.run.new.self _ was.told end.goes end.answers;
      outs = λ k. outs_last o _ _ _ c.run.new.self k (was.outs k) (end.outs k);
      found =
          finds o c.args.objects.now c.run.new.objects _ _ turns.number first c.run.new.self c.end_in_place.result g.met.O.Objects.has_size c.requires.kinds
          c.requires.tells start refl turns.turns (omega (arith, end.executed, turns.counted))
          (λ i. replies_from (end.answers i) (end.taken i));
      shelves =
          leaves o c.args.objects.now c.run.new.objects _ _ _ turns.number first c.run.new.self c.end_in_place.result g.met.O.Objects.has_size
          c.requires.kinds start refl turns.turns end.shelves end.executed (λ i. replies_from (end.answers i) (end.taken i));
    }
