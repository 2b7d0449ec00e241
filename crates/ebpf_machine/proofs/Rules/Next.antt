-- What the next instruction of a sound run is to do: it goes on, and the run is sound after it whatever is answered, or it ends the
-- run.
use Rattle.std.proofs.Common.{◌≡◌, ℕ, ◌+◌, ◌<◌, ◌≤◌, List, [], length, Option, Some, None, sym, ap, ◌∙◌, subst, arith, inl, inr, ◌⊎◌}
use Rattle.std.specs.Prelude.{All}
use Rattle.ebpf_insn.specs.declared.insn.Insn.{Insn}
use Rattle.ebpf_insn.specs.Program.{insn_at}
use Rattle.ebpf_insn.proofs.ProgramLemmas.{defined_at, insn_at_within, count_below-more}
use Rattle.ebpf_flow.specs.Edges.{fall_of, jump_of, edges_of}
use Rattle.ebpf_flow.specs.Flow.{LeadsForward}
use Rattle.ebpf_state.specs.Ascending.{IsAscending}
use Rattle.ebpf_state.specs.StateView.{StateView}
use Rattle.ebpf_verify.specs.declared.entry.EntryState.TheVariants.{Known}
use Rattle.ebpf_verify.specs.Rules.{refusal}
use Rattle.ebpf_verify.specs.Entry.{entry_of}
use Rattle.ebpf_machine.specs.declared.report.Reply.{Reply}
use Rattle.ebpf_machine.specs.Values.{Frame}
use Rattle.ebpf_machine.specs.Effect.{Act, Nothing, Write, Ask, Free, Exchange, Goes, Ends, effect, effect_at}
use Rattle.ebpf_machine.specs.World.{Status, Going}
use Rattle.ebpf_machine.specs.View.{ObjectView, RunView, environment_of_view, effect_of_view, without_given, acted, CallResult}
use Rattle.ebpf_machine.specs.Concretization.{AreOf, Arrives, calls_of}
use Rattle.ebpf_machine.specs.Sound.{FitsFrame, AreSized, IsGoing, IsWellStated, IsSound}
use Rattle.ebpf_verify.proofs.Bounded.{IsFull}
use Rattle.ebpf_machine.proofs.Rules.Entries.{AreDefined, IsEntered}
use Rattle.ebpf_machine.proofs.Rules.Registers.{IsFrame}

-- what is asked for has room
abbrev pub HasRoom : RunView → Act ℕ → Type 0
HasRoom v (Ask kind) = (kind < length v.subject.rows) × (length v.objects < v.subject.decl.held)
HasRoom v (Exchange shelf given) = (shelf < length v.subject.rows) × (length (without_given given v.objects) < v.subject.decl.held)
HasRoom v Nothing = Unit {0}
HasRoom v (Write name at bytes) = Unit {0}
HasRoom v (Free name) = Unit {0}

-- an instruction that goes on: whatever is answered, the run is sound after it
pub record GoesOn (v : RunView) (act : Act ℕ) (to : ℕ) (after : Frame ℕ) : Type 0 where
  pub does : effect_of_view v ≡ Goes act to after
  pub forward : v.pc < to
  pub edge : (i : Insn) × (insn_at v.subject.program v.pc ≡ Some i) × ((fall_of i v.pc ≡ Some to) ⊎ (jump_of i v.pc ≡ Some to))
  pub fit : FitsFrame after
  pub room : HasRoom v act
  pub sound : (reply : CallResult) → IsSound (acted act reply to after v)

-- one that ends the run
pub record EndsRun (v : RunView) (n : ℕ) : Type 0 where
  pub does : effect_of_view v ≡ Ends n
  pub none : v.objects ≡ []

abbrev pub IsNext : RunView → Type 0
IsNext v = ((act : Act ℕ) × (to : ℕ) × (after : Frame ℕ) × GoesOn v act to after) ⊎ ((n : ℕ) × EndsRun v n)

-- ---- at an instruction

-- the instruction is not refused, and what is known before it speaks of the run
pub record IsHere (v : RunView) (i : Insn) (s : StateView) : Type 0 where
  pub sound : IsSound v
  pub sized : AreSized v
  pub going : v.status ≡ Going
  pub at : insn_at v.subject.program v.pc ≡ Some i
  pub entered : entry_of v.subject.program v.pc ≡ Known s
  pub full : IsFull v.pc s
  pub state : AreOf s v.frame v.objects
  pub fine : refusal v.subject.decl v.subject.rows i s ≡ None

pub going_of : (v : RunView) → IsSound v → v.status ≡ Going → IsGoing v
going_of v h going = subst (λ (s : Status). IsWellStated s v) going h.stated

-- the instructions of an accepted program have an encoding
pub defined_in : (v : RunView) → IsSound v → AreDefined v.subject.program
defined_in v h k i at = defined_at v.subject.program k i h.accepted.formed.defined at

pub entered_here : {v : RunView} {i : Insn} {s : StateView} → IsHere v i s → IsEntered v.subject.program v.pc i s
entered_here {v} here = record { defined = defined_in v here.sound; at = here.at; entered = here.entered; full = here.full }

pub frame_of : (v : RunView) → IsSound v → IsFrame v.frame
frame_of v h = record { whole = h.registers; deep = h.stack; pointer = h.pointer; fit = h.fit }

pub effect_here : (v : RunView) (i : Insn) (s : StateView) → IsHere v i s → effect_of_view v ≡ effect i v.pc (environment_of_view v) v.frame
effect_here v i s here = ap (λ (o : Option Insn). effect_at o v.pc (environment_of_view v) v.frame) here.at

-- ---- to another slot

-- an edge of the instruction at a slot
abbrev pub Leads : Insn → ℕ → ℕ → Type 0
Leads i from to = (fall_of i from ≡ Some to) ⊎ (jump_of i from ≡ Some to)

-- an edge leads forward to an instruction
pub leads_forward : (v : RunView) (i : Insn) (to : ℕ) → IsSound v → insn_at v.subject.program v.pc ≡ Some i → Leads i v.pc to
    → LeadsForward v.subject.program v.pc (Some to)
leads_forward v i to h at edge = along edge where
  leads : LeadsForward v.subject.program v.pc (edges_of (insn_at v.subject.program v.pc) v.pc).fall
      × LeadsForward v.subject.program v.pc (edges_of (insn_at v.subject.program v.pc) v.pc).jump
  leads = h.accepted.forward v.pc (insn_at_within v.subject.program v.pc i at)

  along : Leads i v.pc to → LeadsForward v.subject.program v.pc (Some to)
  along (inl fall) = subst (LeadsForward v.subject.program v.pc) (ap (λ (o : Option Insn). (edges_of o v.pc).fall) at ∙ fall) leads.0
  along (inr jump) = subst (LeadsForward v.subject.program v.pc) (ap (λ (o : Option Insn). (edges_of o v.pc).jump) at ∙ jump) leads.1

-- what is known at a slot speaks of a run that goes there with this frame and these objects
pub record IsThere (v : RunView) (to : ℕ) (after : Frame ℕ) (objects : List ObjectView) : Type 0 where
  pub frame : IsFrame after
  pub state : Arrives (entry_of v.subject.program to) after objects
  pub behind : All (λ o. o.call < to) objects
  pub ascending : IsAscending (calls_of objects)
  pub declared : length objects ≤ v.subject.decl.held

-- a run that goes there, with its own objects
pub stays_there : (v : RunView) (i : Insn) (s : StateView) (to : ℕ) (after : Frame ℕ) → IsHere v i s → v.pc < to → IsFrame after
    → Arrives (entry_of v.subject.program to) after v.objects → IsThere v to after v.objects
stays_there v i s to after here forward frame state =
    let was = going_of v here.sound here.going in
    record {
      frame = frame;
      state = state;
      behind = λ k d lt. let before = was.behind k d lt in omega (arith, before, forward);
      ascending = was.ascending;
      declared = was.declared;
    }

-- it is sound there
pub there_sound : (v : RunView) (i : Insn) (s : StateView) (to : ℕ) (after : Frame ℕ) (objects : List ObjectView) (replies : List Reply) (taken : List ℕ)
    → IsHere v i s → Leads i v.pc to → IsThere v to after objects
    → IsSound (record v { pc = to; frame = after; objects = objects; replies = replies; taken = taken; executed = v.executed + 1 })
there_sound v i s to after objects replies taken here edge there =
    let was = going_of v here.sound here.going in
    let leads = leads_forward v i to here.sound here.at edge in
    let now = record v { pc = to; frame = after; objects = objects; replies = replies; taken = taken; executed = v.executed + 1 } in
    record {
      accepted = here.sound.accepted;
      registers = there.frame.whole;
      stack = there.frame.deep;
      context = here.sound.context;
      pointer = there.frame.pointer;
      fit = there.frame.fit;
      stated = subst (λ (s : Status). IsWellStated s now) (sym here.going) (record {
        inside = leads.2;
        few = omega (arith, was.few, count_below-more v.subject.program v.pc to i here.at leads.0);
        state = there.state;
        behind = there.behind;
        ascending = there.ascending;
        declared = there.declared;
      });
    }

-- ---- what goes on

-- an instruction that goes on, where the run is sound after it
pub goes_on : (v : RunView) (i : Insn) (s : StateView) (act : Act ℕ) (to : ℕ) (after : Frame ℕ) → IsHere v i s
    → effect i v.pc (environment_of_view v) v.frame ≡ Goes act to after → Leads i v.pc to → FitsFrame after → HasRoom v act
    → ((reply : CallResult) → IsSound (acted act reply to after v)) → IsNext v
goes_on v i s act to after here does edge fit room sound =
    inl (
      act,
      to,
      after,
      record {
        does = effect_here v i s here ∙ does;
        forward = (leads_forward v i to here.sound here.at edge).0;
        edge = (i, here.at, edge);
        fit = fit;
        room = room;
        sound = sound;
      },
    )

-- one that asks for nothing
pub goes_quietly : (v : RunView) (i : Insn) (s : StateView) (to : ℕ) (after : Frame ℕ) → IsHere v i s
    → effect i v.pc (environment_of_view v) v.frame ≡ Goes Nothing to after → Leads i v.pc to → IsFrame after
    → Arrives (entry_of v.subject.program to) after v.objects → IsNext v
goes_quietly v i s to after here does edge frame state =
    let forward = (leads_forward v i to here.sound here.at edge).0 in
    goes_on v i s Nothing to after here does edge frame.fit tt
    (λ reply. there_sound v i s to after v.objects v.replies v.taken here edge (stays_there v i s to after here forward frame state))
