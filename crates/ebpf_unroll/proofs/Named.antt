-- A run of an accepted program does the same whether its objects are named by the slots of their calls or by the numbers of these.
use Rattle.std.proofs.Common.{◌≡◌, ℕ, zero, suc, ◌+◌, List, [], ◌∷◌, length, Option, Some, None}
use Rattle.std.proofs.Common.{Bool, true, false, cond, refl, sym, ap, subst, ◌∙◌, arith, inl, inr}
use Rattle.std.specs.Prelude.{map, filter, replicate, option_map, not, ◌==◌}
use Rattle.std.proofs.lemmas.List.{length-map}
use Rattle.ebpf_insn.specs.Program.{insn_at}
use Rattle.ebpf_verify.specs.Subject.{Subject}
use Rattle.ebpf_machine.specs.declared.value.Cell.{Cell}
use Rattle.ebpf_machine.specs.declared.value.Cell.TheVariants.{Unset}
use Rattle.ebpf_machine.specs.Values.{Frame}
use Rattle.ebpf_machine.specs.Effect.{Found, Act, Nothing, Write, Ask, Free, Exchange, Effect, Goes, Ends, Traps}
use Rattle.ebpf_machine.specs.Renaming.{cell_renamed, frame_renamed}
use Rattle.ebpf_machine.specs.World.{Going, first_registers}
use Rattle.ebpf_machine.specs.View.{RunView, ObjectView, CallResult, environment_of_view, effect_of_view, done_by, ended, acted, stepped, without_given}
use Rattle.ebpf_machine.proofs.Rules.Next.{HasRoom, IsNext}
use Rattle.ebpf_machine.proofs.World.Telling.{trap_told, act_told, effect_told}
use Rattle.ebpf_machine.proofs.World.Projection.{effect_at-told}
use Rattle.ebpf_machine.proofs.World.Replies.{stepped_going}
use Rattle.ebpf_machine.proofs.World.Steps.{next_of}
use Rattle.ebpf_layout.specs.Running.{first_view, content, IsAsFar}
use Rattle.ebpf_layout.proofs.Renamed.{AreApart, placed, object_placed, laid_view, same_names, met}
use Rattle.ebpf_layout.proofs.Acted.{act_follows}
use Rattle.ebpf_unroll.specs.Counting.{numbered, counted}
use Rattle.ebpf_unroll.proofs.Copied.{counted_going}
use Rattle.ebpf_unroll.proofs.Runs.{subject_by}
use Rattle.ebpf_unroll.proofs.Moves.{IsGood, sized, asks, gone}

-- the run with its objects named so, at a slot
abbrev pub named_view : (ℕ → ℕ) → ℕ → ℕ → RunView → RunView
named_view name at executed v = record (laid_view v.subject.program name executed v) { pc = at }

pub record IsNamed (name : ℕ → ℕ) (v w : RunView) : Type 0 where
  pub at : ℕ
  pub executed : ℕ
  pub same : w ≡ named_view name at executed v
  pub pc : v.status ≡ Going → at ≡ v.pc

-- where an instruction that asks for an object finds the name of that, the number of the call is there, or its slot
same_start : (name : ℕ → ℕ) (act : Act ℕ) (result : CallResult) (to executed : ℕ) (frame : Frame ℕ) (v : RunView)
    → (asks act ≡ 1 → name (length v.replies) ≡ v.pc)
    → acted (act_told (placed name) act) result to frame (named_view name v.pc executed v)
    ≡ acted (act_told (placed name) act) result to frame (laid_view v.subject.program name executed (numbered v))
same_start name Nothing result to executed frame v asked = refl
same_start name (Write call at bytes) result to executed frame v asked = refl
same_start name (Free call) result to executed frame v asked = refl
same_start name (Ask kind) result to executed frame v asked =
    ap (λ (k : ℕ). acted (Ask kind) result to frame (named_view name k executed v)) (sym (asked refl))
same_start name (Exchange shelf given) result to executed frame v asked =
    ap (λ (k : ℕ). acted (Exchange shelf (option_map name given)) result to frame (named_view name k executed v)) (sym (asked refl))

-- room for one is room for the other
freed_named : (name : ℕ → ℕ) (call : ℕ) (objects : List ObjectView) → AreApart name
    → length (filter (λ o. not (o.call == name call)) (map (object_placed name) objects)) ≡ length (filter (λ o. not (o.call == call)) objects)
freed_named name call [] apart = refl
freed_named name call (o ∷ objects) apart = rw (same_names name o.call call apart) (by (not (o.call == call)) (freed_named name call objects apart)) where
  rest : List ObjectView
  rest = filter (λ (x : ObjectView). not (x.call == call)) objects

  new : List ObjectView
  new = filter (λ (x : ObjectView). not (x.call == name call)) (map (object_placed name) objects)

  by : (t : Bool) → length new ≡ length rest → length (cond t (object_placed name o ∷ new) new) ≡ length (cond t (o ∷ rest) rest)
  by true e = omega (arith, e)
  by false e = e

given_left : (name : ℕ → ℕ) (given : Option ℕ) (objects : List ObjectView) → AreApart name
    → length (without_given (option_map name given) (map (object_placed name) objects)) ≡ length (without_given given objects)
given_left name None objects apart = length-map objects (object_placed name)
given_left name (Some call) objects apart = freed_named name call objects apart

has_room : (name : ℕ → ℕ) (act : Act ℕ) (at executed : ℕ) (v : RunView) → AreApart name
    → HasRoom (named_view name at executed v) (act_told (placed name) act) → HasRoom (numbered v) act
has_room name Nothing at executed v apart room = tt
has_room name (Write call place bytes) at executed v apart room = tt
has_room name (Free call) at executed v apart room = tt
has_room name (Ask kind) at executed v apart room = (room.0, let r = room.1 in omega (arith, r, length-map v.objects (object_placed name)))
has_room name (Exchange shelf given) at executed v apart room = (room.0, let r = room.1 in omega (arith, r, given_left name given v.objects apart))

-- ---- one instruction

module _ (name : ℕ → ℕ) (apart : AreApart name) (v : RunView) (executed : ℕ) (result : CallResult) where
  abbrev w : RunView
  w = named_view name v.pc executed v

  goes : (act : Act ℕ) (to : ℕ) (frame : Frame ℕ) → HasRoom w (act_told (placed name) act) → (asks act ≡ 1 → name (length v.replies) ≡ v.pc)
      → stepped result w ≡ acted (act_told (placed name) act) result to (frame_renamed name frame) w
      → counted result v ≡ acted act result to frame (numbered v)
      → IsNamed name (counted result v) (stepped result w)
  goes act to frame room asked there here =
      let now = acted act result to frame (numbered v) in
      let g = gone (numbered v) act to frame result (has_room name act v.pc executed v apart room) in
      let same = same_start name act result to executed (frame_renamed name frame) v asked in
      let program : now.subject ≡ v.subject = subject_by (numbered v) result (Goes act to frame) in
      let arrived = (gone w (act_told (placed name) act) to (frame_renamed name frame) result room).pc in
      subst (λ (t : RunView). IsNamed name t (stepped result w)) (sym here)
      (elim (act_follows v.subject.program name executed act result to to frame (numbered v) apart) [
        | inl f ↦ record {
          at = to;
          executed = executed + 1;
          same = there ∙ same ∙ f.2 ∙ ap (λ (s : Subject). record (laid_view s.program name (executed + 1) now) { pc = to }) (sym program);
          pc = λ still. sym g.pc;
        }
        | inr f ↦ record {
          at = name now.pc;
          executed = executed + 1;
          same = there ∙ same ∙ f.1 ∙ ap (λ (s : Subject). laid_view s.program name (executed + 1) now) (sym program);
          pc = λ still. ap (λ (t : RunView). t.pc) (sym (same ∙ f.1)) ∙ arrived ∙ sym g.pc;
        }
      ])

  ends : (e : Effect ℕ) (now : RunView → RunView) → stepped result w ≡ now w → counted result v ≡ now (numbered v)
      → now w ≡ named_view name v.pc (executed + 1) (now (numbered v)) → ((now (numbered v)).status ≡ Going → ⊥)
      → IsNamed name (counted result v) (stepped result w)
  ends e now there here same over = subst (λ (t : RunView). IsNamed name t (stepped result w)) (sym here) (record {
    at = v.pc;
    executed = executed + 1;
    same = there ∙ same;
    pc = λ still. absurd (over still);
  })

  by_effect : (e f : Effect ℕ) → v.status ≡ Going → effect_of_view v ≡ e → effect_of_view w ≡ f → f ≡ effect_told (placed name) e → IsNext w
      → ((act : Act ℕ) (to : ℕ) (frame : Frame ℕ) → e ≡ Goes act to frame → asks act ≡ 1 → name (length v.replies) ≡ v.pc)
      → IsNamed name (counted result v) (stepped result w)
  by_effect (Goes act to frame) f going old new told (inl next) asked =
      let same : Goes next.0 next.1 next.2 ≡ Goes (act_told (placed name) act) to (frame_renamed name frame) = sym next.3.does ∙ new ∙ told in
      let acts : next.0 ≡ act_told (placed name) act = cc in
      goes act to frame (subst (HasRoom w) acts next.3.room) (asked act to frame refl)
      (stepped_going w result going ∙ ap (λ (x : Effect ℕ). done_by x result w) (new ∙ told))
      (counted_going v result going ∙ ap (λ (x : Effect ℕ). done_by x result (numbered v)) old)
  by_effect (Goes act to frame) f going old new told (inr next) asked =
      let never : Ends next.0 ≡ Goes (act_told (placed name) act) to (frame_renamed name frame) = sym next.1.does ∙ new ∙ told in absurd (cc)
  by_effect (Ends n) f going old new told next asked =
      ends (Ends n) (ended n) (stepped_going w result going ∙ ap (λ (x : Effect ℕ). done_by x result w) (new ∙ told))
      (counted_going v result going ∙ ap (λ (x : Effect ℕ). done_by x result (numbered v)) old) refl (λ still. absurd (cc))
  by_effect (Traps trap) f going old new told (inl next) asked =
      let never : Goes next.0 next.1 next.2 ≡ Traps (trap_told (placed name) trap) = sym next.3.does ∙ new ∙ told in absurd (cc)
  by_effect (Traps trap) f going old new told (inr next) asked =
      let never : Ends next.0 ≡ Traps (trap_told (placed name) trap) = sym next.1.does ∙ new ∙ told in absurd (cc)

  pub effect_named : effect_of_view w ≡ effect_told (placed name) (effect_of_view v)
  effect_named =
      effect_at-told (placed name) (insn_at v.subject.program v.pc) v.pc (environment_of_view v) (environment_of_view w) v.frame
      (met v.subject.program name executed v apart)

  pub next_named : IsGood w → v.status ≡ Going
      → ((act : Act ℕ) (to : ℕ) (frame : Frame ℕ) → effect_of_view v ≡ Goes act to frame → asks act ≡ 1 → name (length v.replies) ≡ v.pc)
      → IsNamed name (counted result v) (stepped result w)
  next_named good going asked =
      by_effect (effect_of_view v) (effect_of_view w) going refl refl effect_named (next_of w good.sound (sized w good) going) asked

pub asks_told : (name : ℕ → ℕ) (act : Act ℕ) → asks (act_told (placed name) act) ≡ asks act
asks_told name Nothing = refl
asks_told name (Write call at bytes) = refl
asks_told name (Free call) = refl
asks_told name (Ask kind) = refl
asks_told name (Exchange shelf given) = refl

-- ---- the first view

cells_named : (name : ℕ → ℕ) (n : ℕ) → map (cell_renamed name) (replicate n Unset) ≡ replicate n Unset
cells_named name zero = refl
cells_named name (suc n) = ap (λ (cells : List (Cell ℕ)). Unset ∷ cells) (cells_named name n)

first_same : (s : Subject) (context : List ℕ) (name : ℕ → ℕ) → first_view s context ≡ named_view name 0 0 (first_view s context)
first_same s context name =
    let cells : replicate 512 Unset ≡ map (cell_renamed name) (replicate 512 Unset) = sym (cells_named name 512) in
    ap (λ (stack : List (Cell ℕ)). record (first_view s context) { frame = record { registers = first_registers; stack = stack; output = [] } }) cells

pub first_named : (s : Subject) (context : List ℕ) (name : ℕ → ℕ) → IsNamed name (first_view s context) (first_view s context)
first_named s context name = record { at = 0; executed = 0; same = first_same s context name; pc = λ going. refl }

-- ---- what comes of the runs

contents_named : (name : ℕ → ℕ) (objects : List ObjectView) → map content (map (object_placed name) objects) ≡ map content objects
contents_named name [] = refl
contents_named name (o ∷ objects) = ap (λ (rest : List Found). content o ∷ rest) (contents_named name objects)

pub named_as_far : (name : ℕ → ℕ) (v w : RunView) → IsNamed name v w → IsAsFar v w
named_as_far name v w h =
    subst (IsAsFar v) (sym h.same) (record { status = refl; output = refl; replies = refl; taken = refl; objects = contents_named name v.objects })
