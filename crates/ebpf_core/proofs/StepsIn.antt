-- What the step of a run says, over a store that has the one object that is lent to it.
use Rattle.std.proofs.Common.{◌≡◌, ◌≢◌, ℕ, ◌+◌, ◌<◌, List, length, Option, Some, None, refl, sym, ap, ◌∙◌, subst}
use Rattle.std.specs.Prelude.{All, Contains, IfNone, IfSome}
use Rattle.ebpf_insn.specs.declared.insn.Insn.{Insn}
use Rattle.ebpf_insn.specs.declared.insn.Insn.TheVariants as insn
use Rattle.ebpf_insn.specs.Program.{insn_at}
use Rattle.ebpf_operation.specs.declared.helper.Helper.{Helper}
use Rattle.ebpf_operation.specs.declared.helper.Helper.TheVariants as helper
use Rattle.ebpf_operation.specs.Helpers.{helper_of}
use Rattle.ebpf_machine.specs.declared.holding.Holding.{Holding}
use Rattle.ebpf_machine.specs.World.{image_at, Status, Going, Exited, Trapped}
use Rattle.ebpf_machine.specs.Kinds.{known_kinds}
use Rattle.ebpf_machine.specs.RunState.{RunState, slots_kept}
use Rattle.ebpf_machine.specs.Step.{Served, MayAnswer, IsEvent, IsStep, asking_in, IsFree, IsFreeAt, GivesBackFrom, GivesBackNext}
use Rattle.ebpf_machine.specs.Store.{Shelved, held_of_kind, Store}
use Rattle.ebpf_machine.specs.Shelves.{shelf_done, shelved_from}
use Rattle.ebpf_machine.specs.Events.{Unasked, asking, asking_helper}
use Rattle.ebpf_machine.specs.View.{RunView, effect_of_view}
use Rattle.ebpf_machine.specs.Values.{Frame}
use Rattle.ebpf_shelves.specs.declared.object.Object.{Object}
use Rattle.ebpf_shelves.specs.Shelves.{as_shelved, standing_on}
use Rattle.ebpf_core.specs.Passing.{IsOut, out_of_kind, offers}
use Rattle.ebpf_core.specs.Shown.{run_seen}
use Rattle.ebpf_core.specs.Stepping.{IsNewObject, IsStepped}

-- the store was lent the object over these shelves, and has what is freed, and what is there then
pub stepped_in : {S : Type 0} (s : Store S Object) (o : Option ℕ) (lent freed was here : Option Object) (before after stood stand : List (Option Object))
    (r t : RunState Object) (old new : S)
    → was ≡ lent → freed ≡ here → stood ≡ before → after ≡ stand → s.outs old ≡ out_of_kind was stood
    → s.outs new ≡ out_of_kind here stand → s.slot_of ≡ (λ x. x.slot)
    → IfNone o ((served : Served) × MayAnswer (offers was stood) r.pc (asking_in (run_seen r)) served
    × IsStep s served (run_seen r) (run_seen t) r.held t.held old new
    × ((shelf : ℕ) (what : Option Shelved) → what ≡ standing_on stood shelf
    → shelf_done (shelved_from as_shelved r.held) (effect_of_view (run_seen r)) shelf what ≡ standing_on stand shelf))
    → ((h : Holding Object) → Contains r.held h → All (λ k. k.object.slot ≢ h.object.slot) t.held → IsOut here stand h.object → ⊥)
    → IfSome freed IsNewObject → IfNone o (IsStepped lent freed before after r t)
stepped_in s (Some n) lent freed was here before after stood stand r t old new l f b a outs outs_new slots step gone image = tt
stepped_in s None lent freed was here before after stood stand r t old new l f b a outs outs_new slots (served, may, step, follow) gone image = record {
  served = served;
  may = subst (λ (x : Option Object). MayAnswer (offers x before) r.pc (asking_in (run_seen r)) served) l
      (subst (λ (xs : List (Option Object)). MayAnswer (offers was xs) r.pc (asking_in (run_seen r)) served) b may);
  state = step.state;
  event = subst (λ (slot_of : Object → ℕ). IsEvent served (run_seen r) (run_seen t) (slots_kept slot_of r.held) (slots_kept slot_of t.held)) slots step.event;
  of_kind = λ kind.
      let freed_is = ap (λ (x : Option Object). out_of_kind x after kind + held_of_kind r.held kind) f
      ∙ ap (λ (xs : List (Option Object)). out_of_kind here xs kind + held_of_kind r.held kind) a in
      let new_is = ap (λ (g : ℕ → ℕ). g kind + held_of_kind r.held kind) (sym outs_new) in
      let old_is = ap (λ (g : ℕ → ℕ). g kind + held_of_kind t.held kind) outs in
      let lent_is = ap (λ (x : Option Object). out_of_kind x stood kind + held_of_kind t.held kind) l
      ∙ ap (λ (xs : List (Option Object)). out_of_kind lent xs kind + held_of_kind t.held kind) b in
      freed_is ∙ new_is ∙ step.store.outs kind ∙ old_is ∙ lent_is;
  gone = λ h among all out. gone h among all
      (subst (λ (x : Option Object). IsOut x stand h.object) f (subst (λ (xs : List (Option Object)). IsOut freed xs h.object) a out));
  image = image;
  shelves = λ shelf. ap (λ (xs : List (Option Object)). standing_on xs shelf) a
      ∙ sym (follow shelf (standing_on before shelf) (ap (λ (xs : List (Option Object)). standing_on xs shelf) (sym b)));
}

pub new_object : (o : Option Object) → IfSome o (λ x. x.bytes.items ≡ image_at known_kinds x.kind)
    → IfSome o (λ x. x.kind < length known_kinds) → IfSome o IsNewObject
new_object None image known = tt
new_object (Some o) image known = (image, known)

-- an instruction that gives an object back asks for none, so nothing was lent to it
free_unasked : (i : Option Insn) (kinds : ℕ) (frame : Frame ℕ) → IsFreeAt i → asking i kinds frame ≡ Unasked
free_unasked (Some (insn.Call number)) kinds frame free = by (helper_of number) free where
  by : (h : Option Helper) → IsFree h → asking_helper h kinds frame ≡ Unasked
  by None free = absurd free
  by (Some helper.New) free = absurd free
  by (Some helper.Free) free = refl
  by (Some helper.Emit) free = absurd free
  by (Some helper.Swap) free = absurd free
free_unasked (Some _) kinds frame free = absurd free
free_unasked None kinds frame free = absurd free

pub gives_unasked : (v : RunView) → GivesBackNext v → asking_in v ≡ Unasked
gives_unasked v gives = by v.status gives where
  by : (s : Status) → GivesBackFrom s (insn_at v.subject.program v.pc) → asking_in v ≡ Unasked
  by Going free = free_unasked (insn_at v.subject.program v.pc) (length v.subject.rows) v.frame free
  by (Exited n) free = absurd free
  by (Trapped trap) free = absurd free
