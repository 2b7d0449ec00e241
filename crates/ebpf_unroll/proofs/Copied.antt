-- One instruction of the old program is one of the new program, with a jump after it or not; or the run of the new one comes to a stub.
use Rattle.std.proofs.Common.{◌≡◌, ℕ, zero, suc, ◌+◌, ◌≤◌, ℤ, Bool, true, false, List, length, Option, Some, refl, sym, ap, subst, ◌∙◌, arith, inl, inr, ◌⊎◌}
use Rattle.std.specs.Prelude.{nat_le}
use Rattle.std.proofs.lemmas.Option.{same_Some}
use Rattle.ebpf_insn.specs.declared.insn.Insn.{Insn}
use Rattle.ebpf_insn.specs.declared.insn.Insn.TheVariants as insn
use Rattle.ebpf_insn.specs.Program.{insn_at, slots_in}
use Rattle.ebpf_flow.specs.Edges.{jump_of, fall_of, edges_at}
use Rattle.ebpf_operation.specs.declared.helper.Helper.{Helper}
use Rattle.ebpf_machine.specs.Values.{Frame, BadCall, TooManyObjects}
use Rattle.ebpf_machine.specs.Effect.{Act, Nothing, Write, Ask, Free, Exchange, Effect, Goes, Ends, Traps, effect_at, effect, effect_of_jump, effect_of_call}
use Rattle.ebpf_machine.specs.World.{Status, Going, Trapped}
use Rattle.ebpf_machine.specs.View.{RunView, CallResult, Null, Granted, Empty, Shelved, environment_of_view}
use Rattle.ebpf_machine.specs.View.{effect_of_view, done_by, ended, trapped, acted, without_given}
use Rattle.ebpf_layout.specs.Layout.{moved}
use Rattle.ebpf_layout.proofs.Reaching.{ordered_insn}
use Rattle.ebpf_layout.proofs.PathLemmas.{fall_edge, jump_edge, fall_of_edge, jump_of_edge}
use Rattle.ebpf_layout.proofs.Places.{fall_moved}
use Rattle.ebpf_layout.proofs.Displaced.{Alike, Ended, Trapped as TrappedAlike, Fell, Jumped, BothJump, displaced}
use Rattle.ebpf_unroll.specs.Unrolling.{IsStub, IsCopyOrStub, IsWayTo, IsUnrolled}
use Rattle.ebpf_unroll.specs.Counting.{numbered, counted_from, counted, count_on}

-- ---- runs

pub on_none : (told : ℕ → CallResult) (v : RunView) → count_on 0 told v ≡ v
unfolding count_on
on_none told v = refl

pub on_more : (n : ℕ) (told : ℕ → CallResult) (v : RunView)
    → count_on (suc n) told v ≡ counted (told (length (count_on n told v).replies)) (count_on n told v)
unfolding count_on
on_more n told v = refl

pub on_one : (told : ℕ → CallResult) (v : RunView) → count_on 1 told v ≡ counted (told (length v.replies)) v
unfolding count_on
on_one told v = refl

-- one instruction more
pub on_next : (n : ℕ) (told : ℕ → CallResult) (v w : RunView) → count_on n told v ≡ w → count_on (suc n) told v ≡ counted (told (length w.replies)) w
on_next n told v w is = on_more n told v ∙ ap (λ (t : RunView). counted (told (length t.replies)) t) is

pub on_join : (k m : ℕ) (told : ℕ → CallResult) (v : RunView) → count_on (k + m) told v ≡ count_on k told (count_on m told v)
on_join zero m told v = let same : zero + m ≡ m = omega arith in ap (λ (n : ℕ). count_on n told v) same ∙ sym (on_none told (count_on m told v))
on_join (suc k) m told v =
    let same : suc k + m ≡ suc (k + m) = omega arith in
    ap (λ (n : ℕ). count_on n told v) same ∙ on_next (k + m) told v (count_on k told (count_on m told v)) (on_join k m told v)
    ∙ sym (on_more k told (count_on m told v))

pub counted_going : (v : RunView) (result : CallResult) → v.status ≡ Going → counted result v ≡ done_by (effect_of_view v) result (numbered v)
counted_going v result going = ap (λ (s : Status). counted_from s result v) going

-- ---- the run in the new program

-- the run of the old program, at a slot of the new one
abbrev pub copied_view : List (Option Insn) → ℕ → ℕ → RunView → RunView
copied_view q at executed v = record v {
  subject = record { program = q; decl = v.subject.decl; rows = v.subject.rows };
  pc = at;
  executed = executed;
}

-- an act took a run to a slot, and the run in the new program to another; or both were trapped
abbrev pub Follows : List (Option Insn) → ℕ → ℕ → ℕ → RunView → RunView → RunView → Type 0
Follows q executed to there v now new =
    ((now.pc ≡ to) × (now.status ≡ v.status) × (new ≡ copied_view q there executed now))
    ⊎ ((now.status ≡ Trapped TooManyObjects) × (new ≡ copied_view q now.pc executed now))

pub act_copied : (q : List (Option Insn)) (executed : ℕ) (act : Act ℕ) (result : CallResult) (to there : ℕ) (frame : Frame ℕ) (v : RunView)
    → Follows q (executed + 1) to there v (acted act result to frame v) (acted act result there frame (copied_view q v.pc executed v))
act_copied q executed Nothing result to there frame v = inl (refl, refl, refl)
act_copied q executed (Write call at bytes) result to there frame v = inl (refl, refl, refl)
act_copied q executed (Free call) result to there frame v = inl (refl, refl, refl)
act_copied q executed (Ask kind) Null to there frame v = inl (refl, refl, refl)
act_copied q executed (Ask kind) Empty to there frame v = inl (refl, refl, refl)
act_copied q executed (Ask kind) (Shelved bytes) to there frame v = inl (refl, refl, refl)
act_copied q executed (Ask kind) Granted to there frame v = by (nat_le v.subject.decl.held (length v.objects)) refl where
  w : RunView
  w = copied_view q v.pc executed v

  by : (t : Bool) → nat_le v.subject.decl.held (length v.objects) ≡ t
      → Follows q (executed + 1) to there v (acted (Ask kind) Granted to frame v) (acted (Ask kind) Granted there frame w)
  by true e = rw e (inr (refl, refl))
  by false e = rw e (inl (refl, refl, refl))
act_copied q executed (Exchange shelf given) Empty to there frame v = inl (refl, refl, refl)
act_copied q executed (Exchange shelf given) Null to there frame v = inl (refl, refl, refl)
act_copied q executed (Exchange shelf given) Granted to there frame v = inl (refl, refl, refl)
act_copied q executed (Exchange shelf given) (Shelved bytes) to there frame v =
    by (nat_le v.subject.decl.held (length (without_given given v.objects))) refl where
      w : RunView
      w = copied_view q v.pc executed v

      by : (t : Bool) → nat_le v.subject.decl.held (length (without_given given v.objects)) ≡ t
          → Follows q (executed + 1) to there v (acted (Exchange shelf given) (Shelved bytes) to frame v)
          (acted (Exchange shelf given) (Shelved bytes) there frame w)
      by true e = rw e (inr (refl, refl))
      by false e = rw e (inl (refl, refl, refl))

-- ---- stubs and added jumps

stub_traps : (q : List (Option Insn)) (at executed : ℕ) (now : RunView) (result : CallResult) → now.status ≡ Going → IsStub q at
    → (counted result (copied_view q at executed now)).status ≡ Trapped BadCall
stub_traps q at executed now result going stub =
    let w = copied_view q at executed now in
    let traps : effect_of_view w ≡ Traps BadCall =
    ap (λ (o : Option Insn). effect_at o at (environment_of_view w) w.frame) stub.1
    ∙ ap (λ (h : Option Helper). effect_of_call h (at + 1) (environment_of_view w) w.frame) stub.2 in
    ap (λ (t : RunView). t.status) (counted_going w result going ∙ ap (λ (e : Effect ℕ). done_by e result (numbered w)) traps)

jumps_on : (q : List (Option Insn)) (at on executed : ℕ) (z : ℤ) (now : RunView) (result : CallResult) → now.status ≡ Going
    → insn_at q at ≡ Some (insn.Jump z) → (edges_at q at).jump ≡ Some on
    → counted result (copied_view q at executed now) ≡ copied_view q on (executed + 1) now
jumps_on q at on executed z now result going here edge =
    let w = copied_view q at executed now in
    let target : jump_of (insn.Jump z) at ≡ Some on = jump_of_edge q at (insn.Jump z) on here edge in
    let goes : effect_of_view w ≡ Goes Nothing on w.frame =
    ap (λ (o : Option Insn). effect_at o at (environment_of_view w) w.frame) here ∙ ap (λ (t : Option ℕ). effect_of_jump t w.frame) target in
    counted_going w result going ∙ ap (λ (e : Effect ℕ). done_by e result (numbered w)) goes

-- ---- one instruction

-- what the run in the new program comes to, after one or two instructions: what the other run is now; or it comes to a stub
pub data Stepped (q : List (Option Insn)) (of : ℕ → Option ℕ) (told : ℕ → CallResult) (w now : RunView) : Type 0 where
  On : (k at executed : ℕ) → 1 ≤ k → k ≤ 2 → count_on k told w ≡ copied_view q at executed now → (now.status ≡ Going → of at ≡ Some now.pc)
      → Stepped q of told w now
  Stuck : (k : ℕ) → (count_on k told w).status ≡ Trapped BadCall → Stepped q of told w now

-- where a way ends
arrives : (q : List (Option Insn)) (of : ℕ → Option ℕ) (told : ℕ → CallResult) (k at to executed : ℕ) (w now : RunView) → 1 ≤ k → k ≤ 2
    → count_on k told w ≡ copied_view q at executed now → now.pc ≡ to → now.status ≡ Going → IsCopyOrStub q of at to → Stepped q of told w now
arrives q of told k at to executed w now least most is pc going (inl copy) = On k at executed least most is (λ still. copy ∙ ap Some (sym pc))
arrives q of told k at to executed w now least most is pc going (inr stub) =
    Stuck (suc k) (ap (λ (t : RunView). t.status) (on_next k told w (copied_view q at executed now) is)
    ∙ stub_traps q at executed now (told (length now.replies)) going stub)

goes_on : (q : List (Option Insn)) (of : ℕ → Option ℕ) (told : ℕ → CallResult) (at to executed : ℕ) (w now : RunView)
    → count_on 1 told w ≡ copied_view q at executed now → now.pc ≡ to → now.status ≡ Going → IsWayTo q of at to → Stepped q of told w now
goes_on q of told at to executed w now is pc going (inl end) = arrives q of told 1 at to executed w now (omega arith) (omega arith) is pc going end
goes_on q of told at to executed w now is pc going (inr way) =
    arrives q of told 2 way.1 to (executed + 1) w now (omega arith) (omega arith)
    (on_next 1 told w (copied_view q at executed now) is
    ∙ jumps_on q at way.1 executed way.0 now (told (length now.replies)) going way.2 way.3) pc going way.4

-- an act that goes on along an edge
goes_along : (q : List (Option Insn)) (of : ℕ → Option ℕ) (told : ℕ → CallResult) (v : RunView) (at executed : ℕ) (act : Act ℕ) (frame : Frame ℕ) (to next : ℕ)
    → v.status ≡ Going → effect_of_view v ≡ Goes act to frame → effect_of_view (copied_view q at executed v) ≡ Goes act next frame
    → IsWayTo q of next to → Stepped q of told (copied_view q at executed v) (counted (told (length v.replies)) v)
goes_along q of told v at executed act frame to next going old new way =
    let w = copied_view q at executed v in
    let result = told (length v.replies) in
    let now = acted act result to frame (numbered v) in
    let here : counted result v ≡ now = counted_going v result going ∙ ap (λ (e : Effect ℕ). done_by e result (numbered v)) old in
    let there : count_on 1 told w ≡ acted act result next frame (numbered w) =
    on_one told w ∙ counted_going w result going ∙ ap (λ (e : Effect ℕ). done_by e result (numbered w)) new in
    subst (Stepped q of told w) (sym here) (elim (act_copied q executed act result to next frame (numbered v)) [
      | inl f ↦ goes_on q of told next to (executed + 1) w now (there ∙ f.2) f.0 (f.1 ∙ going) way
      | inr f ↦ On 1 now.pc (executed + 1) (omega arith) (omega arith) (there ∙ f.1)
          (λ still. let never : Going ≡ Trapped TooManyObjects = sym still ∙ f.0 in absurd (cc))
    ])

-- an instruction that ends the run, or traps
stops : (q : List (Option Insn)) (of : ℕ → Option ℕ) (told : ℕ → CallResult) (v : RunView) (at executed : ℕ) (e : Effect ℕ) (now : RunView → RunView)
    → v.status ≡ Going → effect_of_view v ≡ e → effect_of_view (copied_view q at executed v) ≡ e
    → ((w : RunView) → done_by e (told (length v.replies)) w ≡ now w)
    → now (numbered (copied_view q at executed v)) ≡ copied_view q (length v.replies) (executed + 1) (now (numbered v))
    → ((now (numbered v)).status ≡ Going → ⊥)
    → Stepped q of told (copied_view q at executed v) (counted (told (length v.replies)) v)
stops q of told v at executed e now going old new done same over =
    let w = copied_view q at executed v in
    let result = told (length v.replies) in
    let here : counted result v ≡ now (numbered v) =
    counted_going v result going ∙ (ap (λ (x : Effect ℕ). done_by x result (numbered v)) old ∙ done (numbered v)) in
    let there : count_on 1 told w ≡ now (numbered w) =
    on_one told w ∙ counted_going w result going ∙ (ap (λ (x : Effect ℕ). done_by x result (numbered w)) new ∙ done (numbered w)) in
    subst (Stepped q of told w) (sym here)
    (On 1 (length v.replies) (executed + 1) (omega arith) (omega arith) (there ∙ same) (λ still. absurd (over still)))

module _ (p q : List (Option Insn)) (of : ℕ → Option ℕ) (u : IsUnrolled p q of) (told : ℕ → CallResult) where
  both_jump : (at slot : ℕ) (i : Insn) (z : ℤ) → of at ≡ Some slot → insn_at p slot ≡ Some i → insn_at q at ≡ Some (moved i z)
      → BothJump i slot (moved i z) at
  both_jump at slot i z copy here there d jumps =
      let to = (u.leads at slot copy).led i d here jumps in
      let way = (u.leads at slot copy).jumps to.0 (jump_edge p slot i to.0 here to.1) in
      (to.0, way.0, to.1, jump_of_edge q at (moved i z) way.0 there way.1)

  by_effect : (v : RunView) (at executed : ℕ) (i : Insn) (z : ℤ) (e f : Effect ℕ) → v.status ≡ Going → of at ≡ Some v.pc
      → insn_at p v.pc ≡ Some i → insn_at q at ≡ Some (moved i z) → effect_of_view v ≡ e → effect_of_view (copied_view q at executed v) ≡ f
      → Alike i v.pc (moved i z) at e f → Stepped q of told (copied_view q at executed v) (counted (told (length v.replies)) v)
  by_effect v at executed i z e f going copy here there old new (Ended n is also) =
      stops q of told v at executed (Ends n) (ended n) going (old ∙ is) (new ∙ also) (λ w. refl) refl (λ still. absurd (cc))
  by_effect v at executed i z e f going copy here there old new (TrappedAlike trap is also) =
      stops q of told v at executed (Traps trap) (trapped trap) going (old ∙ is) (new ∙ also) (λ w. refl) refl (λ still. absurd (cc))
  by_effect v at executed i z e f going copy here there old new (Fell act frame falling is also) =
      let to = v.pc + slots_in i in
      let falls_to : fall_of i v.pc ≡ Some to = rw falling refl in
      let way = (u.leads at v.pc copy).falls to (fall_edge p v.pc i to here falls_to) in
      let next : at + slots_in i ≡ way.0 =
      same_Some (at + slots_in i) way.0 (sym (fall_moved i z v.pc to at falls_to) ∙ fall_of_edge q at (moved i z) way.0 there way.1) in
      goes_along q of told v at executed act frame to way.0 going (old ∙ is) (new ∙ also ∙ ap (λ (k : ℕ). Goes act k frame) next) way.2
  by_effect v at executed i z e f going copy here there old new (Jumped act frame to next jumps jumps_there is also) =
      let way = (u.leads at v.pc copy).jumps to (jump_edge p v.pc i to here jumps) in
      let same : next ≡ way.0 = same_Some next way.0 (sym jumps_there ∙ jump_of_edge q at (moved i z) way.0 there way.1) in
      goes_along q of told v at executed act frame to way.0 going (old ∙ is) (new ∙ also ∙ ap (λ (k : ℕ). Goes act k frame) same) way.2

  pub step_copied : (v : RunView) (at executed : ℕ) → v.subject.program ≡ p → v.status ≡ Going → of at ≡ Some v.pc
      → Stepped q of told (copied_view q at executed v) (counted (told (length v.replies)) v)
  step_copied v at executed same going copy =
      let w = copied_view q at executed v in
      let i = ordered_insn p v.pc (insn_at p v.pc) refl ((u.leads at v.pc copy).there) in
      let m = u.same at v.pc i.0 copy i.1 in
      let a = environment_of_view v in
      let old : effect_of_view v ≡ effect i.0 v.pc a v.frame =
      ap (λ (r : List (Option Insn)). effect_at (insn_at r v.pc) v.pc a v.frame) same ∙ ap (λ (o : Option Insn). effect_at o v.pc a v.frame) i.1 in
      let new : effect_of_view w ≡ effect (moved i.0 m.0) at a v.frame = ap (λ (o : Option Insn). effect_at o at a v.frame) m.1 in
      by_effect v at executed i.0 m.0 (effect i.0 v.pc a v.frame) (effect (moved i.0 m.0) at a v.frame) going copy i.1 m.1 old new
      (displaced i.0 m.0 v.pc at a v.frame (both_jump at v.pc i.0 m.0 copy i.1 m.1))
