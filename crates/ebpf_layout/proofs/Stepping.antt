-- One instruction of the old program is one of the new program, or two where a jump was added after it.
use Rattle.std.proofs.Common.{◌≡◌, ℕ, ◌+◌, ℤ, List, Option, Some, None, refl, sym, ap, subst, ◌∙◌, inl, inr, ◌⊎◌}
use Rattle.std.proofs.lemmas.Option.{none-some, same_Some}
use Rattle.ebpf_insn.specs.declared.insn.Insn.{Insn}
use Rattle.ebpf_insn.specs.declared.insn.Insn.TheVariants as insn
use Rattle.ebpf_insn.specs.Program.{insn_at, slots_in}
use Rattle.ebpf_flow.specs.declared.fault.FlowCode.TheVariants.{JumpOutside}
use Rattle.ebpf_flow.specs.Edges.{displacement_of, target_of, jump_of, fall_of}
use Rattle.ebpf_machine.specs.Values.{Frame}
use Rattle.ebpf_machine.specs.Effect.{Act, Nothing, Effect, Goes, Ends, Traps, effect_at, effect, effect_of_jump}
use Rattle.ebpf_machine.specs.Values.{Trap}
use Rattle.ebpf_machine.specs.Renaming.{frame_renamed}
use Rattle.ebpf_machine.specs.World.{Going}
use Rattle.ebpf_machine.specs.View.{RunView, CallResult, environment_of_view, effect_of_view, done_by, ended, trapped, acted, stepped}
use Rattle.ebpf_machine.proofs.World.Telling.{act_told, effect_told}
use Rattle.ebpf_machine.proofs.World.Projection.{effect_at-told}
use Rattle.ebpf_machine.proofs.World.Replies.{stepped_going}
use Rattle.ebpf_layout.specs.Paths.{IsReached}
use Rattle.ebpf_layout.specs.EdgeFaults.{target_fault, jump_fault, fall_fault, edge_fault}
use Rattle.ebpf_layout.specs.Layout.{moved, IsJumpTo, IsLaidOut}
use Rattle.ebpf_layout.proofs.PathLemmas.{path_more, fall_is_edge, jump_is_edge}
use Rattle.ebpf_layout.proofs.Reaching.{none_of, ordered_insn}
use Rattle.ebpf_layout.proofs.PathLemmas.{fall_edge, jump_edge, fall_of_edge, jump_of_edge}
use Rattle.ebpf_layout.proofs.Places.{fall_moved}
use Rattle.ebpf_layout.proofs.Renamed.{placed, laid_view, trap_kept, met}
use Rattle.ebpf_layout.proofs.Acted.{Follows, act_follows}
use Rattle.ebpf_layout.proofs.Displaced.{Alike, Ended, Trapped, Fell, Jumped, BothJump, displaced}

-- ---- an instruction that jumps leads somewhere

jump_led : (p : List (Option Insn)) (slot : ℕ) (d : ℤ) (i : Insn) → displacement_of i ≡ Some d → edge_fault p slot (Some i) ≡ None
    → (to : ℕ) × (jump_of i slot ≡ Some to)
jump_led p slot d i jumps fine = by (jump_of i slot) refl where
  parts : (jump_fault p slot (displacement_of i) ≡ None) × (fall_fault p slot i ≡ None)
  parts = none_of (jump_fault p slot (displacement_of i)) (fall_fault p slot i) fine

  outside : jump_of i slot ≡ None → Some JumpOutside ≡ None
  outside none =
      let at : target_of (Some d) slot ≡ None = ap (λ (x : Option ℤ). target_of x slot) (sym jumps) ∙ none in
      sym (ap (target_fault p) at) ∙ (ap (jump_fault p slot) (sym jumps) ∙ parts.0)

  by : (o : Option ℕ) → jump_of i slot ≡ o → (to : ℕ) × (jump_of i slot ≡ Some to)
  by None e = absurd (none-some JumpOutside (sym (outside e)))
  by (Some to) e = (to, e)

both_jump : (p q : List (Option Insn)) (laid : IsLaidOut p q) (slot : ℕ) (i : Insn) (z : ℤ) → IsReached p slot
    → insn_at p slot ≡ Some i → insn_at q (laid.place slot) ≡ Some (moved i z)
    → BothJump i slot (moved i z) (laid.place slot)
both_jump p q laid slot i z reached at there d jumps =
    let fine : edge_fault p slot (Some i) ≡ None = subst (λ (o : Option Insn). edge_fault p slot o ≡ None) at (laid.led slot reached) in
    let to = jump_led p slot d i jumps fine in
    let edge = jump_edge p slot i to.0 at to.1 in
    (to.0, laid.place to.0, to.1, jump_of_edge q (laid.place slot) (moved i z) (laid.place to.0) there (laid.jumps slot to.0 reached edge))

-- ---- effects that are given by places

was_ended : (place : ℕ → ℕ) (e : Effect ℕ) (n : ℕ) → effect_told (placed place) e ≡ Ends n → e ≡ Ends n
was_ended place (Goes act to frame) n same = absurd (cc)
was_ended place (Ends m) n same = same
was_ended place (Traps trap) n same = absurd (cc)

was_trapped : (place : ℕ → ℕ) (e : Effect ℕ) (trap : Trap) → effect_told (placed place) e ≡ Traps trap → e ≡ Traps trap
was_trapped place (Goes act to frame) trap same = absurd (cc)
was_trapped place (Ends m) trap same = absurd (cc)
was_trapped place (Traps other) trap same = ap Traps (sym (trap_kept place other)) ∙ same

-- it went on, with an act and a frame that are given so
pub record Went (place : ℕ → ℕ) (e : Effect ℕ) (act : Act ℕ) (to : ℕ) (frame : Frame ℕ) : Type 0 where
  pub acts : Act ℕ
  pub left : Frame ℕ
  pub was : e ≡ Goes acts to left
  pub told : Goes act to frame ≡ Goes (act_told (placed place) acts) to (frame_renamed place left)

went_on : (place : ℕ → ℕ) (e : Effect ℕ) (act : Act ℕ) (to : ℕ) (frame : Frame ℕ) → effect_told (placed place) e ≡ Goes act to frame → Went place e act to frame
went_on place (Goes acts other left) act to frame same =
    let one : other ≡ to = cc in
    record {
      acts = acts;
      left = left;
      was = ap (λ (k : ℕ). Goes acts k left) one;
      told = sym same ∙ ap (λ (k : ℕ). Goes (act_told (placed place) acts) k (frame_renamed place left)) one;
    }
went_on place (Ends m) act to frame same = absurd (cc)
went_on place (Traps other) act to frame same = absurd (cc)

-- an effect that goes on elsewhere in the same way
led_alike : (act acts : Act ℕ) (to there : ℕ) (frame left : Frame ℕ) → Goes act to frame ≡ Goes acts to left → Goes act there frame ≡ Goes acts there left
led_alike act acts to there frame left same = ap (led there) same where
  led : ℕ → Effect ℕ → Effect ℕ
  led k (Goes a t f) = Goes a k f
  led k (Ends n) = Ends n
  led k (Traps trap) = Traps trap

-- ---- one instruction

-- after one instruction of the new program, or after two, its run is what the other run is after one
abbrev pub Keeps : List (Option Insn) → (ℕ → ℕ) → ℕ → RunView → CallResult → CallResult → RunView → Type 0
Keeps q place executed w result other now =
    (stepped result w ≡ laid_view q place (executed + 1) now) ⊎ (stepped other (stepped result w) ≡ laid_view q place (executed + 1 + 1) now)

-- a run in the new program is at an added jump
jumps_on : (q : List (Option Insn)) (place : ℕ → ℕ) (executed next to : ℕ) (now : RunView) (other : CallResult) → now.status ≡ Going
    → IsJumpTo q next (place to) → now.pc ≡ to
    → stepped other (record (laid_view q place executed now) { pc = next }) ≡ laid_view q place (executed + 1) now
jumps_on q place executed next to now other going jump same =
    let w : RunView = record (laid_view q place executed now) { pc = next } in
    let target : jump_of (insn.Jump jump.0) next ≡ Some (place to) = jump_of_edge q next (insn.Jump jump.0) (place to) jump.1 jump.2 in
    let goes : effect_of_view w ≡ Goes Nothing (place to) w.frame =
    ap (λ (o : Option Insn). effect_at o next (environment_of_view w) w.frame) jump.1 ∙ ap (λ (t : Option ℕ). effect_of_jump t w.frame) target in
    stepped_going w other going ∙ ap (λ (e : Effect ℕ). done_by e other w) goes
    ∙ ap (λ (k : ℕ). record (laid_view q place (executed + 1) now) { pc = place k }) (sym same)

-- what follows of an act that goes on at a slot of the new program, if that is the place or a jump there
followed : (q : List (Option Insn)) (place : ℕ → ℕ) (executed to next : ℕ) (v now new w : RunView) (result other : CallResult)
    → v.status ≡ Going → stepped result w ≡ new → Follows q place (executed + 1) to next v now new
    → (next ≡ place to) ⊎ IsJumpTo q next (place to) → Keeps q place executed w result other now
followed q place executed to next v now new w result other going here (inl f) (inl same) =
    inl (here ∙ f.2 ∙ ap (λ (k : ℕ). record (laid_view q place (executed + 1) now) { pc = k }) (same ∙ ap place (sym f.0)))
followed q place executed to next v now new w result other going here (inl f) (inr jump) =
    inr (ap (stepped other) (here ∙ f.2) ∙ jumps_on q place (executed + 1) next to now other (f.1 ∙ going) jump f.0)
followed q place executed to next v now new w result other going here (inr f) way = inl (here ∙ f.1)

-- and where the run is then
arrived_at : (p q : List (Option Insn)) (place : ℕ → ℕ) (executed to next : ℕ) (v now new : RunView) → IsReached p v.pc
    → IsReached p to → Follows q place executed to next v now new → IsReached p now.pc
arrived_at p q place executed to next v now new reached led (inl f) = subst (IsReached p) (sym f.0) led
arrived_at p q place executed to next v now new reached led (inr f) = subst (IsReached p) (sym f.0) reached

pub record IsStep (p q : List (Option Insn)) (place : ℕ → ℕ) (executed : ℕ) (v : RunView) (result other : CallResult) : Type 0 where
  pub reached : IsReached p (stepped result v).pc
  pub kept : Keeps q place executed (laid_view q place executed v) result other (stepped result v)

-- an act that goes on along an edge
goes_along : (p q : List (Option Insn)) (laid : IsLaidOut p q) (v : RunView) (executed : ℕ) (act : Act ℕ) (frame : Frame ℕ) (to next : ℕ)
    (result other : CallResult)
    → v.status ≡ Going → IsReached p v.pc → IsReached p to
    → effect_of_view v ≡ Goes act to frame
    → effect_of_view (laid_view q laid.place executed v) ≡ Goes (act_told (placed laid.place) act) next (frame_renamed laid.place frame)
    → (next ≡ laid.place to) ⊎ IsJumpTo q next (laid.place to) → IsStep p q laid.place executed v result other
goes_along p q laid v executed act frame to next result other going reached led old new way =
    let w = laid_view q laid.place executed v in
    let now = acted act result to frame v in
    let here : stepped result v ≡ now = stepped_going v result going ∙ ap (λ (e : Effect ℕ). done_by e result v) old in
    let there : stepped result w ≡ acted (act_told (placed laid.place) act) result next (frame_renamed laid.place frame) w =
    stepped_going w result going ∙ ap (λ (e : Effect ℕ). done_by e result w) new in
    let f = act_follows q laid.place executed act result to next frame v laid.apart in
    record {
      reached = subst (λ (t : RunView). IsReached p t.pc) (sym here) (arrived_at p q laid.place (executed + 1) to next v now _ reached led f);
      kept = subst (Keeps q laid.place executed w result other) (sym here) (followed q laid.place executed to next v now _ w result other going there f way);
    }

-- an instruction that ends the run, or traps
stops : (p q : List (Option Insn)) (place : ℕ → ℕ) (v : RunView) (executed : ℕ) (e : Effect ℕ) (now : RunView → RunView) (result other : CallResult)
    → v.status ≡ Going → IsReached p v.pc
    → effect_of_view v ≡ e → effect_of_view (laid_view q place executed v) ≡ e → ((w : RunView) → done_by e result w ≡ now w)
    → ((w : RunView) → (now w).pc ≡ w.pc)
    → now (laid_view q place executed v) ≡ laid_view q place (executed + 1) (now v) → IsStep p q place executed v result other
stops p q place v executed e now result other going reached old new done stays same =
    let w = laid_view q place executed v in
    let here : stepped result v ≡ now v = stepped_going v result going ∙ (ap (λ (x : Effect ℕ). done_by x result v) old ∙ done v) in
    let there : stepped result w ≡ now w = stepped_going w result going ∙ (ap (λ (x : Effect ℕ). done_by x result w) new ∙ done w) in
    record {
      reached = subst (λ (t : RunView). IsReached p t.pc) (sym here) (subst (IsReached p) (sym (stays v)) reached);
      kept = subst (Keeps q place executed w result other) (sym here) (inl (there ∙ same));
    }

-- by what the instruction does in both programs
by_effect : (p q : List (Option Insn)) (laid : IsLaidOut p q) (v : RunView) (executed : ℕ) (i : Insn) (z : ℤ) (e f : Effect ℕ) (result other : CallResult)
    → v.status ≡ Going → IsReached p v.pc → insn_at p v.pc ≡ Some i
    → insn_at q (laid.place v.pc) ≡ Some (moved i z) → effect_of_view v ≡ e → effect_of_view (laid_view q laid.place executed v) ≡ f
    → Alike i v.pc (moved i z) (laid.place v.pc) (effect_told (placed laid.place) e) f
    → IsStep p q laid.place executed v result other
by_effect p q laid v executed i z e f result other going reached at there old new (Ended n told is) =
    stops p q laid.place v executed (Ends n) (ended n) result other going reached (old ∙ was_ended laid.place e n told) (new ∙ is) (λ w. refl) (λ w. refl) refl
by_effect p q laid v executed i z e f result other going reached at there old new (Trapped trap told is) =
    stops p q laid.place v executed (Traps trap) (trapped trap) result other going reached (old ∙ was_trapped laid.place e trap told) (new ∙ is) (λ w. refl)
    (λ w. refl) refl
by_effect p q laid v executed i z e f result other going reached at there old new (Fell act frame falling told is) =
    let to = v.pc + slots_in i in
    let g = went_on laid.place e act to frame told in
    let falls_to : fall_of i v.pc ≡ Some to = rw falling refl in
    let edge = fall_edge p v.pc i to at falls_to in
    let way = laid.falls v.pc to reached edge in
    let next : laid.place v.pc + slots_in i ≡ way.0 =
    same_Some (laid.place v.pc + slots_in i) way.0
    (sym (fall_moved i z v.pc to (laid.place v.pc) falls_to) ∙ fall_of_edge q (laid.place v.pc) (moved i z) way.0 there way.1) in
    let goes = led_alike act (act_told (placed laid.place) g.acts) to way.0 frame (frame_renamed laid.place g.left) g.told in
    goes_along p q laid v executed g.acts g.left to way.0 result other going reached (path_more p 0 v.pc to reached (fall_is_edge p v.pc to edge))
    (old ∙ g.was) (new ∙ is ∙ ap (λ (k : ℕ). Goes act k frame) next ∙ goes) way.2
by_effect p q laid v executed i z e f result other going reached at there old new (Jumped act frame to next jumps jumps_there told is) =
    let g = went_on laid.place e act to frame told in
    let edge = jump_edge p v.pc i to at jumps in
    let same : next ≡ laid.place to = same_Some next (laid.place to)
    (sym jumps_there ∙ jump_of_edge q (laid.place v.pc) (moved i z) (laid.place to) there (laid.jumps v.pc to reached edge)) in
    let goes = led_alike act (act_told (placed laid.place) g.acts) to next frame (frame_renamed laid.place g.left) g.told in
    goes_along p q laid v executed g.acts g.left to next result other going reached (path_more p 0 v.pc to reached (jump_is_edge p v.pc to edge))
    (old ∙ g.was) (new ∙ is ∙ goes) (inl same)

pub step_kept : (p q : List (Option Insn)) (laid : IsLaidOut p q) (v : RunView) (executed : ℕ) (result other : CallResult)
    → v.subject.program ≡ p → IsReached p v.pc → v.status ≡ Going → IsStep p q laid.place executed v result other
step_kept p q laid v executed result other same reached going =
    let w = laid_view q laid.place executed v in
    let i = ordered_insn p v.pc (insn_at p v.pc) refl (laid.there v.pc reached) in
    let m = laid.same v.pc i.0 reached i.1 in
    let a = environment_of_view v in
    let b = environment_of_view w in
    let old : effect_of_view v ≡ effect i.0 v.pc a v.frame =
    ap (λ (p : List (Option Insn)). effect_at (insn_at p v.pc) v.pc a v.frame) same ∙ ap (λ (o : Option Insn). effect_at o v.pc a v.frame) i.1 in
    let new : effect_of_view w ≡ effect (moved i.0 m.0) w.pc b w.frame = ap (λ (o : Option Insn). effect_at o w.pc b w.frame) m.1 in
    let told : effect i.0 v.pc b w.frame ≡ effect_told (placed laid.place) (effect i.0 v.pc a v.frame) =
    effect_at-told (placed laid.place) (Some i.0) v.pc a b v.frame (met q laid.place executed v laid.apart) in
    let alike = displaced i.0 m.0 v.pc w.pc b w.frame (both_jump p q laid v.pc i.0 m.0 reached i.1 m.1) in
    by_effect p q laid v executed i.0 m.0 (effect i.0 v.pc a v.frame) (effect (moved i.0 m.0) w.pc b w.frame) result other going reached i.1 m.1 old new
    (subst (λ (e : Effect ℕ). Alike i.0 v.pc (moved i.0 m.0) w.pc e (effect (moved i.0 m.0) w.pc b w.frame)) told alike)
