-- A run at its first instruction: it holds nothing, was answered nothing, and is where the run alone begins.
use Rattle.std.proofs.Common.{◌≡◌, ℕ, List, [], refl, sym, ap, subst, arith}
use Rattle.ebpf_verify.specs.Subject.{Subject}
use Rattle.ebpf_machine.specs.View.{view_in}
use Rattle.ebpf_machine.specs.RunState.{RunState, first_state_of, seen}
use Rattle.ebpf_machine.specs.Alone.{Alone, replies_from}
use Rattle.ebpf_machine.specs.Sound.{IsSound, IsAlone}
use Rattle.ebpf_machine.specs.Step.{seen_in}
use Rattle.ebpf_machine.specs.Store.{Store, AreOut}
use Rattle.ebpf_machine.proofs.World.Lone.{after_none}
use Rattle.ebpf_machine.proofs.WholeRuns.Told.{IsUnderWay}

none_out : {S H : Type 0} (o : Store S H) (s : S) → AreOut o s []
none_out o s = record { out = λ i d few. absurd (omega (arith, few)); apart = λ i j d before few. absurd (omega (arith, few)) }

first_alone : {H : Type 0} (bytes : H → List ℕ) (subject : Subject) (context : List ℕ) → IsAlone (seen bytes (first_state_of subject context))
first_alone bytes subject context = ap (λ (a : Alone). view_in a.world 0) (after_none subject context (replies_from [] []))

pub starts : {S H : Type 0} (o : Store S H) (s : S) (subject : Subject) (context : List ℕ) (r : RunState H)
    → r ≡ first_state_of subject context → IsSound (seen_in o s r) → IsUnderWay o s s subject context r
starts {S} {H} o s subject context r first sound = subst Starting (sym first) from_first sound where
  Starting : RunState H → Type 0
  Starting t = IsSound (seen_in o s t) → IsUnderWay o s s subject context t

  from_first : Starting (first_state_of subject context)
  from_first sound = record {
    subject_is = refl;
    context_is = refl;
    out = none_out o s;
    alone = first_alone (o.bytes_of s) subject context;
    sound = sound;
    told = o.stays s;
    few = omega arith;
    outs = λ k. omega arith;
  }
