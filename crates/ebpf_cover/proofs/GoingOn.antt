-- An instruction that leads to the next slot and nowhere else leads a run there.
use Rattle.std.proofs.Common.{◌≡◌, refl, ℕ, ◌+◌, pos, ◌++◌, [], ◌∷◌, nat_le, cond, Bool, true, false, length, Option, Some, None, sym, ap, ◌∙◌}
use Rattle.std.proofs.Common.{inl, inr, ◌⊎◌, eqb-true}
use Rattle.ebpf_insn.specs.declared.insn.Insn.{Insn}
use Rattle.ebpf_flow.specs.Edges.{edges_of, fall_of, jump_of}
use Rattle.ebpf_machine.specs.Values.{Frame, TooManyObjects}
use Rattle.ebpf_machine.specs.Effect.{Act, Nothing, Write, Ask, Free, Exchange}
use Rattle.ebpf_machine.specs.World.{Going, Exited, kinds_of}
use Rattle.ebpf_machine.specs.View as view
use Rattle.ebpf_machine.specs.View.{RunView, CallResult, acted, ended, stepped, trapped, replied, new_object, shelved_object, without_given}
use Rattle.ebpf_machine.specs.declared.value.Value.TheVariants.{Pointer}
use Rattle.ebpf_machine.specs.declared.value.Base.TheVariants.{Object}
use Rattle.ebpf_machine.specs.RunState.{RunState, status_of}
use Rattle.ebpf_machine.specs.Sound.{IsSound}
use Rattle.ebpf_machine.specs.Step.{seen_in, result_of}
use Rattle.ebpf_machine.specs.Store.{Store, AreOut}
use Rattle.ebpf_machine.specs.Turns.{IsTurn}
use Rattle.ebpf_machine.proofs.World.Steps.{IsNext, next_of, stepped_goes, stepped_ends}
use Rattle.ebpf_machine.proofs.WholeRuns.Told.{HaveSizes, sized_out}
use Rattle.ebpf_cover.specs.Stretches.{is_only, goes_on}

-- one of two edges, where only the first is there
only_edge : (fall jump : Option ℕ) (next to : ℕ) → is_only fall jump next ≡ true → (fall ≡ Some to) ⊎ (jump ≡ Some to) → to ≡ next
only_edge None jump next to only edge = absurd (cc)
only_edge (Some fall) (Some jump) next to only edge = absurd (cc)
only_edge (Some fall) None next to only (inl at) = let same : fall ≡ to = cc in sym same ∙ eqb-true fall next only
only_edge (Some fall) None next to only (inr at) = absurd (cc)

-- a run that goes on after an instruction is where that leads
acted_pc : (act : Act ℕ) (result : CallResult) (to : ℕ) (after : Frame ℕ) (v : RunView) → (acted act result to after v).status ≡ Going → (acted act result to after v).pc ≡ to
acted_pc Nothing result to after v going = refl
acted_pc (Write call at bytes) result to after v going = refl
acted_pc (Free call) result to after v going = refl
acted_pc (Ask kind) view.Null to after v going = refl
acted_pc (Ask kind) view.Empty to after v going = refl
acted_pc (Ask kind) (view.Shelved bytes) to after v going = refl
acted_pc (Ask kind) view.Granted to after v going = by (nat_le v.subject.decl.held (length v.objects)) going where
  next : RunView
  next = record (replied view.Granted (Pointer (Object v.pc) (pos 0)) to after v) { objects = v.objects ++ new_object v kind ∷ [] }

  by : (b : Bool) → (cond b (trapped TooManyObjects v) next).status ≡ Going → (cond b (trapped TooManyObjects v) next).pc ≡ to
  by true e = absurd (cc)
  by false e = refl
acted_pc (Exchange shelf given) view.Null to after v going = refl
acted_pc (Exchange shelf given) view.Empty to after v going = refl
acted_pc (Exchange shelf given) view.Granted to after v going = refl
acted_pc (Exchange shelf given) (view.Shelved bytes) to after v going = by (nat_le v.subject.decl.held (length (without_given given v.objects))) going where
  next : RunView
  next = record (replied (view.Shelved bytes) (Pointer (Object v.pc) (pos 0)) to after v) { objects = without_given given v.objects ++ shelved_object v shelf bytes ∷ []; taken = v.taken ++ bytes }

  by : (b : Bool) → (cond b (trapped TooManyObjects v) next).status ≡ Going → (cond b (trapped TooManyObjects v) next).pc ≡ to
  by true e = absurd (cc)
  by false e = refl

-- so is one whose instruction leads to the next slot only
pub straight_on : {S H : Type 0} (o : Store S H) (old new : S) (r t : RunState H) → HaveSizes o old → o.kinds ≡ kinds_of r.subject.rows → AreOut o old r.held → IsSound (seen_in o old r)
    → IsTurn o r t old new → t.exit ≡ None → goes_on r.subject.program r.pc ≡ true → t.pc ≡ r.pc + 1
straight_on o old new r t sizes kinds out sound turn going straight = by (next_of v sound (sized_out o old r sizes kinds out) now) where
  v : RunView
  v = seen_in o old r

  now : v.status ≡ Going
  now = ap status_of turn.going

  then : (seen_in o new t).status ≡ Going
  then = ap status_of going

  reply : CallResult
  reply = result_of turn.step.0

  by : IsNext v → t.pc ≡ r.pc + 1
  by (inl goes) =
      let state : seen_in o new t ≡ acted goes.0 reply goes.1 goes.2 v = turn.step.2.state ∙ stepped_goes v reply goes.0 goes.1 goes.2 now goes.3 in
      let there = acted_pc goes.0 reply goes.1 goes.2 v (sym (ap (λ (u : RunView). u.status) state) ∙ then) in
      let edge = goes.3.edge in
      let only : is_only (fall_of edge.0 r.pc) (jump_of edge.0 r.pc) (r.pc + 1) ≡ true =
      ap (λ (i : Option Insn). is_only (edges_of i r.pc).fall (edges_of i r.pc).jump (r.pc + 1)) (sym edge.1) ∙ straight in
      ap (λ (u : RunView). u.pc) state ∙ there ∙ only_edge (fall_of edge.0 r.pc) (jump_of edge.0 r.pc) (r.pc + 1) goes.1 only edge.2
  by (inr ends) =
      let state : seen_in o new t ≡ ended ends.0 v = turn.step.2.state ∙ stepped_ends v reply ends.0 now ends.1 in
      let status : Exited ends.0 ≡ Going = sym (ap (λ (u : RunView). u.status) state) ∙ then in
      absurd (cc)
