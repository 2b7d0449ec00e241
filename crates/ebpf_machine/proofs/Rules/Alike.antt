-- Objects that differ in their bytes alone: what is known of a run speaks of it whatever bytes they have.
use Rattle.std.proofs.Common.{◌≡◌, ℕ, ◌+◌, ◌*◌, ◌<◌, ◌≤◌, List, [], ◌∷◌, length, get_or, Some, None, refl, sym, ap, ◌∙◌, subst}
use Rattle.std.specs.Prelude.{All, Contains, map}
use Rattle.std.proofs.lemmas.Simd.{map-map}
use Rattle.std.proofs.lemmas.List.{length-map}
use Rattle.std.proofs.lemmas.List.Elements.{All-map}
use Rattle.ebpf_state.specs.declared.value.Abs.TheVariants.{Unset}
use Rattle.ebpf_state.specs.Stack.{word_of}
use Rattle.ebpf_state.specs.Ascending.{IsAscending}
use Rattle.ebpf_state.specs.StateView.{StateView}
use Rattle.ebpf_state.specs.References.{kind_held}
use Rattle.ebpf_verify.specs.declared.entry.EntryState.{EntryState}
use Rattle.ebpf_verify.specs.declared.entry.EntryState.TheVariants.{Unreached, Known, Conflict}
use Rattle.ebpf_machine.specs.Values.{Frame}
use Rattle.ebpf_machine.specs.Cells.{cell_at}
use Rattle.ebpf_machine.specs.World.{Status, Going, Exited, Trapped}
use Rattle.ebpf_machine.specs.View.{ObjectView, RunView}
use Rattle.ebpf_machine.specs.RunState.{RunState, object_seen, seen}
use Rattle.ebpf_machine.specs.Concretization.{IsOf, IsOfCells, AreOf, Arrives, calls_of}
use Rattle.ebpf_machine.specs.Sound.{IsWellStated, IsSound}
use Rattle.ebpf_machine.proofs.Lists.Mapped.{Contains-mapped, Contains-unmapped, All-unmapped}

-- ---- objects

abbrev pub named : ObjectView → ℕ × ℕ
named o = (o.call, o.kind)

-- the same calls hold objects of the same kinds
abbrev pub AreAlike : List ObjectView → List ObjectView → Type 0
AreAlike objects others = map named objects ≡ map named others

pub alike_calls : (objects others : List ObjectView) → AreAlike objects others → calls_of objects ≡ calls_of others
alike_calls objects others same = sym (map-map first named objects) ∙ ap (map first) same ∙ map-map first named others where
  first : ℕ × ℕ → ℕ
  first n = n.0

alike_length : (objects others : List ObjectView) → AreAlike objects others → length objects ≡ length others
alike_length objects others same = sym (length-map objects named) ∙ ap (λ (ns : List (ℕ × ℕ)). length ns) same ∙ length-map others named

-- each of them has one of its call and kind beside it
alike_object : (objects others : List ObjectView) (o : ObjectView) → AreAlike objects others → Contains others o
    → (p : ObjectView) × Contains objects p × (p.call ≡ o.call) × (p.kind ≡ o.kind)
alike_object objects others o same among =
    let it =
    Contains-unmapped named objects (named o) (subst (λ (ns : List (ℕ × ℕ)). Contains ns (named o)) (sym same) (Contains-mapped named others o among)) in
    (it.0, it.1, ap (λ (n : ℕ × ℕ). n.0) it.2, ap (λ (n : ℕ × ℕ). n.1) it.2)

of_alike : (s : StateView) (frame : Frame ℕ) (objects others : List ObjectView) → AreAlike objects others → AreOf s frame objects → AreOf s frame others
of_alike s frame objects others same h =
    let calls = alike_calls objects others same in
    record {
      each = λ k lt. subst (λ (ns : List ℕ). IsOf ns (get_or s.registers k Unset) (get_or frame.registers k None)) calls (h.each k lt);
      words = λ w lt. subst (λ (ns : List ℕ). IsOfCells ns (word_of s.words w) (λ j. cell_at frame.stack (8 * w + j))) calls (h.words w lt);
      held = λ o there. let it = alike_object objects others o same there in ap (λ (c : ℕ). kind_held c s) (sym it.2) ∙ (h.held it.0 it.1 ∙ ap Some it.3);
    }

pub arrives_alike : (a : EntryState) (frame : Frame ℕ) (objects others : List ObjectView) → AreAlike objects others
    → Arrives a frame objects → Arrives a frame others
arrives_alike Unreached frame objects others same h = h
arrives_alike (Known s) frame objects others same h = of_alike s frame objects others same h
arrives_alike Conflict frame objects others same h = h

-- ---- runs

calls_below : (n : ℕ) (objects others : List ObjectView) → AreAlike objects others → All (λ o. o.call < n) objects → All (λ o. o.call < n) others
calls_below n objects others same h =
    All-unmapped (λ (c : ℕ). c < n) (λ (o : ObjectView). o.call) others
    (subst (All (λ (c : ℕ). c < n)) (alike_calls objects others same) (All-map (λ (c : ℕ). c < n) (λ (o : ObjectView). o.call) objects h))

none_alike : (others : List ObjectView) → AreAlike [] others → others ≡ []
none_alike [] same = refl
none_alike (o ∷ others) same = absurd (cc)

-- a run with objects like its own is as sound
pub sound_alike : (v : RunView) (others : List ObjectView) → AreAlike v.objects others → IsSound v → IsSound (record v { objects = others })
sound_alike v others same h = record {
  accepted = h.accepted;
  registers = h.registers;
  stack = h.stack;
  context = h.context;
  pointer = h.pointer;
  fit = h.fit;
  stated = by v.status h.stated;
} where
  by : (s : Status) → IsWellStated s v → IsWellStated s (record v { objects = others })
  by Going g = record {
    inside = g.inside;
    few = g.few;
    state = arrives_alike _ v.frame v.objects others same g.state;
    behind = calls_below v.pc v.objects others same g.behind;
    ascending = subst IsAscending (alike_calls v.objects others same) g.ascending;
    declared = subst (λ (n : ℕ). n ≤ v.subject.decl.held) (alike_length v.objects others same) g.declared;
  }
  by (Exited n) e = record { few = e.few; returned = none_alike others (subst (λ (os : List ObjectView). AreAlike os others) e.returned same) }
  by (Trapped trap) e = e

-- the soundness of a run does not depend on the bytes of its objects
pub sound_any : {H : Type 0} (bytes other : H → List ℕ) (r : RunState H) → IsSound (seen bytes r) → IsSound (seen other r)
sound_any bytes other r h =
    sound_alike (seen bytes r) (map (object_seen other) r.held)
    (map-map named (object_seen bytes) r.held ∙ sym (map-map named (object_seen other) r.held)) h
