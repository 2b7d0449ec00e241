-- What an instruction asks for changes the run in the new program as it changes the run in the old one.
use Rattle.std.proofs.Common.{◌≡◌, ℕ, ◌+◌, pos, Bool, true, false, cond, not, List, [], ◌∷◌, ◌++◌, length, Option, Some, None, refl, ap, ◌∙◌, inl, inr, ◌⊎◌}
use Rattle.std.specs.Prelude.{map, filter, nat_le, ◌==◌, option_map}
use Rattle.std.proofs.lemmas.List.{length-map}
use Rattle.ebpf_insn.specs.declared.insn.Insn.{Insn}
use Rattle.ebpf_insn.specs.declared.register.Reg.TheVariants.{R0}
use Rattle.ebpf_machine.specs.declared.value.Value.{Value}
use Rattle.ebpf_machine.specs.declared.value.Value.TheVariants.{Number, Pointer}
use Rattle.ebpf_machine.specs.declared.value.Base.TheVariants.{Object}
use Rattle.ebpf_machine.specs.Bytes.{patched}
use Rattle.ebpf_machine.specs.Values.{Frame, TooManyObjects}
use Rattle.ebpf_machine.specs.Effect.{Act, Nothing, Write, Ask, Free, Exchange}
use Rattle.ebpf_machine.specs.Renaming.{frame_renamed, value_renamed}
use Rattle.ebpf_machine.specs.View.{ObjectView, RunView, CallResult, Null, Granted, Empty, Shelved, trapped, replied, new_object, shelved_object}
use Rattle.ebpf_machine.specs.View.{answered, without_given, exchanged, patched_at, acted}
use Rattle.ebpf_machine.proofs.World.Telling.{act_told}
use Rattle.ebpf_machine.proofs.World.Projection.{with_value-told}
use Rattle.ebpf_layout.proofs.Renamed.{AreApart, placed, object_placed, laid_view, same_names}

-- an act took a run to a slot, and the run in the new program to another; or both were trapped where they were
abbrev pub Follows : List (Option Insn) → (ℕ → ℕ) → ℕ → ℕ → ℕ → RunView → RunView → RunView → Type 0
Follows q place executed to there v now new =
    ((now.pc ≡ to) × (now.status ≡ v.status) × (new ≡ record (laid_view q place executed now) { pc = there }))
    ⊎ ((now.pc ≡ v.pc) × (new ≡ laid_view q place executed now))

-- ---- the lists of objects

patched_placed : (place : ℕ → ℕ) (call at : ℕ) (bytes : List ℕ) (o : ObjectView) → AreApart place
    → patched_at (place call) at bytes (object_placed place o) ≡ object_placed place (patched_at call at bytes o)
patched_placed place call at bytes o apart = rw (same_names place o.call call apart) (by (o.call == call)) where
  by : (t : Bool)
      → cond t (record (object_placed place o) { bytes = patched o.bytes at bytes }) (object_placed place o)
      ≡ object_placed place (cond t (record o { bytes = patched o.bytes at bytes }) o)
  by true = refl
  by false = refl

written_placed : (place : ℕ → ℕ) (call at : ℕ) (bytes : List ℕ) (objects : List ObjectView) → AreApart place
    → map (patched_at (place call) at bytes) (map (object_placed place) objects) ≡ map (object_placed place) (map (patched_at call at bytes) objects)
written_placed place call at bytes [] apart = refl
written_placed place call at bytes (o ∷ objects) apart = rw (patched_placed place call at bytes o apart, written_placed place call at bytes objects apart) refl

freed_placed : (place : ℕ → ℕ) (call : ℕ) (objects : List ObjectView) → AreApart place
    → filter (λ o. not (o.call == place call)) (map (object_placed place) objects) ≡ map (object_placed place) (filter (λ o. not (o.call == call)) objects)
freed_placed place call [] apart = refl
freed_placed place call (o ∷ objects) apart = rw (same_names place o.call call apart, freed_placed place call objects apart) (by (not (o.call == call))) where
  rest : List ObjectView
  rest = filter (λ (x : ObjectView). not (x.call == call)) objects

  by : (t : Bool)
      → cond t (object_placed place o ∷ map (object_placed place) rest) (map (object_placed place) rest) ≡ map (object_placed place) (cond t (o ∷ rest) rest)
  by true = refl
  by false = refl

left_placed : (place : ℕ → ℕ) (given : Option ℕ) (objects : List ObjectView) → AreApart place
    → without_given (option_map place given) (map (object_placed place) objects) ≡ map (object_placed place) (without_given given objects)
left_placed place None objects apart = refl
left_placed place (Some call) objects apart = freed_placed place call objects apart

-- one more object
pushed_placed : (place : ℕ → ℕ) (objects : List ObjectView) (o : ObjectView)
    → map (object_placed place) objects ++ object_placed place o ∷ [] ≡ map (object_placed place) (objects ++ o ∷ [])
pushed_placed place [] o = refl
pushed_placed place (x ∷ objects) o = ap (λ (os : List ObjectView). object_placed place x ∷ os) (pushed_placed place objects o)

-- ---- what a call is answered

-- a run that goes on after a call, with these objects and bytes taken
abbrev told_on : CallResult → Value ℕ → ℕ → Frame ℕ → List ObjectView → List ℕ → RunView → RunView
told_on result value to frame objects taken v = record (replied result value to frame v) { objects = objects; taken = taken }

replied_placed : (q : List (Option Insn)) (place : ℕ → ℕ) (executed : ℕ) (result : CallResult) (value : Value ℕ) (to there : ℕ) (frame : Frame ℕ)
    (objects new : List ObjectView) (taken : List ℕ) (v : RunView)
    → new ≡ map (object_placed place) objects
    → told_on result (value_renamed place value) there (frame_renamed place frame) new taken (laid_view q place executed v)
    ≡ record (laid_view q place (executed + 1) (told_on result value to frame objects taken v)) { pc = there }
replied_placed q place executed result value to there frame objects new taken v same =
    ap (λ (os : List ObjectView). told_on result (value_renamed place value) there (frame_renamed place frame) os taken (laid_view q place executed v)) same
    ∙ ap (λ (f : Frame ℕ). record (told_on result (value_renamed place value) there (frame_renamed place frame) (map (object_placed place) objects) taken
    (laid_view q place executed v)) { frame = f })
    (with_value-told (placed place) frame R0 value)

answer_follows : (q : List (Option Insn)) (place : ℕ → ℕ) (executed : ℕ) (result : CallResult) (to there : ℕ) (frame : Frame ℕ) (kind : ℕ) (v : RunView)
    → Follows q place (executed + 1) to there v (answered result to frame kind v)
    (answered result there (frame_renamed place frame) kind (laid_view q place executed v))
answer_follows q place executed Null to there frame kind v =
    inl (refl, refl, replied_placed q place executed Null (Number 0) to there frame v.objects (map (object_placed place) v.objects) v.taken v refl)
answer_follows q place executed Empty to there frame kind v =
    inl (refl, refl, replied_placed q place executed Null (Number 0) to there frame v.objects (map (object_placed place) v.objects) v.taken v refl)
answer_follows q place executed (Shelved bytes) to there frame kind v =
    inl (refl, refl, replied_placed q place executed Null (Number 0) to there frame v.objects (map (object_placed place) v.objects) v.taken v refl)
answer_follows q place executed Granted to there frame kind v =
    rw (length-map v.objects (object_placed place)) (by (nat_le v.subject.decl.held (length v.objects))) where
      granted : RunView
      granted = told_on Granted (Pointer (Object v.pc) (pos 0)) to frame (v.objects ++ new_object v kind ∷ []) v.taken v

      laid : RunView
      laid = laid_view q place executed v

      followed : RunView
      followed = told_on Granted (Pointer (Object (place v.pc)) (pos 0)) there (frame_renamed place frame) (laid.objects ++ new_object laid kind ∷ []) v.taken laid

      by : (t : Bool) → Follows q place (executed + 1) to there v (cond t (trapped TooManyObjects v) granted) (cond t (trapped TooManyObjects laid) followed)
      by true = inr (refl, refl)
      by false = inl (
        refl,
        refl,
        replied_placed q place executed Granted (Pointer (Object v.pc) (pos 0)) to there frame (v.objects ++ new_object v kind ∷ [])
            (laid.objects ++ new_object laid kind ∷ []) v.taken v (pushed_placed place v.objects (new_object v kind)),
      )

emptied : (q : List (Option Insn)) (place : ℕ → ℕ) (executed to there : ℕ) (frame : Frame ℕ) (given : Option ℕ) (v : RunView) → AreApart place
    → told_on Empty (Number 0) there (frame_renamed place frame) (without_given (option_map place given) (map (object_placed place) v.objects)) v.taken
    (laid_view q place executed v)
    ≡ record (laid_view q place (executed + 1) (told_on Empty (Number 0) to frame (without_given given v.objects) v.taken v)) { pc = there }
emptied q place executed to there frame given v apart =
    replied_placed q place executed Empty (Number 0) to there frame (without_given given v.objects)
    (without_given (option_map place given) (map (object_placed place) v.objects)) v.taken v (left_placed place given v.objects apart)

exchange_follows : (q : List (Option Insn)) (place : ℕ → ℕ) (executed : ℕ) (result : CallResult) (to there : ℕ) (frame : Frame ℕ) (shelf : ℕ)
    (given : Option ℕ) (v : RunView)
    → AreApart place
    → Follows q place (executed + 1) to there v (exchanged result to frame shelf given v)
    (exchanged result there (frame_renamed place frame) shelf (option_map place given) (laid_view q place executed v))
exchange_follows q place executed Empty to there frame shelf given v apart = inl (refl, refl, emptied q place executed to there frame given v apart)
exchange_follows q place executed Null to there frame shelf given v apart = inl (refl, refl, emptied q place executed to there frame given v apart)
exchange_follows q place executed Granted to there frame shelf given v apart = inl (refl, refl, emptied q place executed to there frame given v apart)
exchange_follows q place executed (Shelved bytes) to there frame shelf given v apart =
    rw (left_placed place given v.objects apart, length-map (without_given given v.objects) (object_placed place))
    (by (nat_le v.subject.decl.held (length left))) where
      left : List ObjectView
      left = without_given given v.objects

      laid : RunView
      laid = laid_view q place executed v

      got : RunView
      got = told_on (Shelved bytes) (Pointer (Object v.pc) (pos 0)) to frame (left ++ shelved_object v shelf bytes ∷ []) (v.taken ++ bytes) v

      followed : RunView
      followed = told_on (Shelved bytes) (Pointer (Object (place v.pc)) (pos 0)) there (frame_renamed place frame)
          (map (object_placed place) left ++ shelved_object laid shelf bytes ∷ []) (v.taken ++ bytes) laid

      by : (t : Bool) → Follows q place (executed + 1) to there v (cond t (trapped TooManyObjects v) got) (cond t (trapped TooManyObjects laid) followed)
      by true = inr (refl, refl)
      by false = inl (
        refl,
        refl,
        replied_placed q place executed (Shelved bytes) (Pointer (Object v.pc) (pos 0)) to there frame (left ++ shelved_object v shelf bytes ∷ [])
            (map (object_placed place) left ++ shelved_object laid shelf bytes ∷ []) (v.taken ++ bytes) v
            (pushed_placed place left (shelved_object v shelf bytes)),
      )

pub act_follows : (q : List (Option Insn)) (place : ℕ → ℕ) (executed : ℕ) (act : Act ℕ) (result : CallResult) (to there : ℕ) (frame : Frame ℕ) (v : RunView)
    → AreApart place
    → Follows q place (executed + 1) to there v (acted act result to frame v)
    (acted (act_told (placed place) act) result there (frame_renamed place frame) (laid_view q place executed v))
act_follows q place executed Nothing result to there frame v apart = inl (refl, refl, refl)
act_follows q place executed (Write call at bytes) result to there frame v apart = inl (
  refl,
  refl,
  ap (λ (os : List ObjectView). record (laid_view q place executed v)
      { pc = there; frame = frame_renamed place frame; executed = executed + 1; objects = os }) (written_placed place call at bytes v.objects apart),
)
act_follows q place executed (Ask kind) result to there frame v apart = answer_follows q place executed result to there frame kind v
act_follows q place executed (Free call) result to there frame v apart = inl (
  refl,
  refl,
  ap (λ (os : List ObjectView). record (laid_view q place executed v)
      { pc = there; frame = frame_renamed place frame; executed = executed + 1; objects = os }) (freed_placed place call v.objects apart),
)
act_follows q place executed (Exchange shelf given) result to there frame v apart = exchange_follows q place executed result to there frame shelf given v apart
