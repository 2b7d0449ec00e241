-- What is known where the objects of a run become more or fewer: where a call is granted one or answered null, and where one is given
-- back.
use Rattle.std.proofs.Common.{◌≡◌, ◌≢◌, ℕ, ◌+◌, ◌*◌, ◌<◌, false, not, List, [], ◌∷◌, ◌++◌, get_or, filter, Option, Some, None, sym, ap, ◌∙◌, subst}
use Rattle.std.proofs.Common.{inl, inr, ◌⊎◌, arith}
use Rattle.std.specs.Prelude.{All, Contains, ◌==◌}
use Rattle.std.proofs.lemmas.Bool.{cond_both, eq-eqb, ne_eqb, not-true}
use Rattle.std.proofs.lemmas.List.{get_or-map, map-append}
use Rattle.std.proofs.lemmas.List.Elements.{All-get_or, All-contains, Contains-append_left, Contains-push_cases}
use Rattle.ebpf_state.specs.declared.value.Abs.{Abs}
use Rattle.ebpf_state.specs.declared.value.Abs.TheVariants.{Unset, Num, Stk, Ctx, Ob, May}
use Rattle.ebpf_state.specs.declared.word.Word.{Word}
use Rattle.ebpf_state.specs.declared.word.Word.TheVariants.{Spill, Bytes}
use Rattle.ebpf_state.specs.Stack.{word_of}
use Rattle.ebpf_state.specs.StateView.{StateView}
use Rattle.ebpf_state.specs.References.{holding, kind_held, forgotten_value, forgotten_word, forgotten}
use Rattle.ebpf_machine.specs.declared.value.Value.{Value}
use Rattle.ebpf_machine.specs.declared.value.Value.TheVariants.{Number, Pointer}
use Rattle.ebpf_machine.specs.declared.value.Base.TheVariants.{Stack, Context, Object}
use Rattle.ebpf_machine.specs.declared.value.Cell.{Cell}
use Rattle.ebpf_machine.specs.Values.{Frame}
use Rattle.ebpf_machine.specs.Cells.{cell_at}
use Rattle.ebpf_machine.specs.View.{ObjectView}
use Rattle.ebpf_machine.specs.Concretization.{IsOf, IsOfCells, AreOf, AreReferred, calls_of}
use Rattle.ebpf_machine.proofs.Lists.ListLemmas.{Contains-filter, filter-map}
use Rattle.ebpf_machine.proofs.Lists.Mapped.{Contains-mapped, Contains-unmapped, Contains-kept}
use Rattle.ebpf_verify.proofs.Bounded.{IsBoundedValue, IsBoundedWord, IsFull, word_bounded}
use Rattle.ebpf_machine.proofs.Rules.Words.{left_spilled}
use Rattle.ebpf_machine.proofs.Rules.Referred.{earlier_kinds, new_kind, kinds_without}

-- the call that a value names, if any, holds an object among the others where it does among these; and an answer that was not
-- compared yet is null where it was
abbrev StaysOf : List ℕ → List ℕ → Abs → Type 0
StaysOf calls others (Ob call low high) = Contains calls call → Contains others call
StaysOf calls others (May call) = (Contains calls call → Contains others call) × (Contains others call → Contains calls call)
StaysOf calls others _ = Unit {0}

of_others : (calls others : List ℕ) (a : Abs) (v : Option (Value ℕ)) → StaysOf calls others a → IsOf calls a v → IsOf others a v
of_others calls others Unset v stays h = tt
of_others calls others (Num a) v stays h = h
of_others calls others (Stk k) v stays h = h
of_others calls others (Ctx a b) v stays h = h
of_others calls others (Ob call a b) (Some (Pointer (Object at) w)) stays h = (h.0, h.1, h.2, stays h.3)
of_others calls others (May call) (Some (Pointer (Object at) w)) stays h = (h.0, h.1, stays.0 h.2)
of_others calls others (May call) (Some (Number n)) stays h = (h.0, λ among. h.1 (stays.1 among))
of_others calls others (Ob call a b) None stays h = absurd h
of_others calls others (Ob call a b) (Some (Number n)) stays h = absurd h
of_others calls others (Ob call a b) (Some (Pointer Stack w)) stays h = absurd h
of_others calls others (Ob call a b) (Some (Pointer Context w)) stays h = absurd h
of_others calls others (May call) None stays h = absurd h
of_others calls others (May call) (Some (Pointer Stack w)) stays h = absurd h
of_others calls others (May call) (Some (Pointer Context w)) stays h = absurd h

-- ---- a call asks for an object

-- the answers that are known are of earlier calls
stays_granted : (calls : List ℕ) (slot : ℕ) (a : Abs) → IsBoundedValue slot a → StaysOf calls (calls ++ slot ∷ []) a
stays_granted calls slot (Ob call low high) h = Contains-append_left calls (slot ∷ []) call
stays_granted calls slot (May call) h = (Contains-append_left calls (slot ∷ []) call, λ among. older (Contains-push_cases calls slot call among)) where
  older : Contains calls call ⊎ (slot ≡ call) → Contains calls call
  older (inl among) = among
  older (inr same) = absurd (omega (arith, same, h))
stays_granted calls slot Unset h = tt
stays_granted calls slot (Num a) h = tt
stays_granted calls slot (Stk k) h = tt
stays_granted calls slot (Ctx a b) h = tt

cells_granted : (calls : List ℕ) (slot : ℕ) (word : Word) (cells : ℕ → Cell ℕ) → IsBoundedWord slot word
    → IsOfCells calls word cells → IsOfCells (calls ++ slot ∷ []) word cells
cells_granted calls slot (Spill a) cells b h = (h.0, of_others calls (calls ++ slot ∷ []) a (Some h.0) (stays_granted calls slot a b) h.1, h.2, h.3)
cells_granted calls slot (Bytes mask) cells b h = h

-- what is held of objects of earlier calls stays
held_on : (slot kind : ℕ) (s : StateView) (objects : List ObjectView) → All (λ o. o.call < slot) objects → AreReferred s objects
    → AreReferred (holding slot kind s) objects
held_on slot kind s objects behind h o there =
    earlier_kinds o.call (record { call = slot; kind = kind; tested = false }) s.held
    (All-contains (λ (p : ObjectView). p.call < slot) objects o behind there) ∙ h o there

-- the run is answered null
pub null_state : (slot kind : ℕ) (s : StateView) (frame : Frame ℕ) (objects : List ObjectView) → All (λ o. o.call < slot) objects
    → AreOf s frame objects → AreOf (holding slot kind s) frame objects
null_state slot kind s frame objects behind h = record { each = h.each; words = h.words; held = held_on slot kind s objects behind h.held }

-- the run is granted an object
pub granted_state : (slot : ℕ) (s : StateView) (frame : Frame ℕ) (objects : List ObjectView) (new : ObjectView) → new.call ≡ slot
    → IsFull slot s → All (λ o. o.call < slot) objects → AreOf s frame objects
    → AreOf (holding slot new.kind s) frame (objects ++ new ∷ [])
granted_state slot s frame objects new is full behind h =
    let calls : calls_of (objects ++ new ∷ []) ≡ calls_of objects ++ slot ∷ [] =
    map-append (λ (o : ObjectView). o.call) objects (new ∷ []) ∙ ap (λ (n : ℕ). calls_of objects ++ n ∷ []) is in
    record {
      each = λ k lt. subst (λ (ns : List ℕ). IsOf ns (get_or s.registers k Unset) (get_or frame.registers k None)) (sym calls)
          (of_others (calls_of objects) (calls_of objects ++ slot ∷ []) (get_or s.registers k Unset) (get_or frame.registers k None)
          (stays_granted (calls_of objects) slot (get_or s.registers k Unset)
          (All-get_or (IsBoundedValue slot) s.registers k Unset (omega (arith, full.whole, lt)) full.bounded)) (h.each k lt));
      words = λ w lt. subst (λ (ns : List ℕ). IsOfCells ns (word_of s.words w) (λ j. cell_at frame.stack (8 * w + j))) (sym calls)
          (cells_granted (calls_of objects) slot (word_of s.words w) (λ j. cell_at frame.stack (8 * w + j))
          (word_bounded slot s.words w full.bounded_words) (h.words w lt));
      held = λ o there. one o (Contains-push_cases objects new o there);
    }
  where
    reference : StateView
    reference = holding slot new.kind s

    one : (o : ObjectView) → Contains objects o ⊎ (new ≡ o) → kind_held o.call reference ≡ Some o.kind
    one o (inl there) = held_on slot new.kind s objects behind h.held o there
    one o (inr same) =
        subst (λ (p : ObjectView). kind_held p.call reference ≡ Some p.kind) same
        (ap (λ (c : ℕ). kind_held c reference) is ∙ new_kind (record { call = slot; kind = new.kind; tested = false }) s.held)

-- ---- an object is given back

-- the objects of other calls
abbrev pub without : ℕ → List ObjectView → List ObjectView
without call objects = filter (λ o. not (o.call == call)) objects

pub calls_without : (call : ℕ) (objects : List ObjectView) → calls_of (without call objects) ≡ filter (λ c. not (c == call)) (calls_of objects)
calls_without call objects = sym (filter-map (λ c. not (c == call)) (λ (o : ObjectView). o.call) objects)

still_held : (call other : ℕ) (objects : List ObjectView) → other ≢ call → Contains (calls_of objects) other
    → Contains (calls_of (without call objects)) other
still_held call other objects apart among =
    let it = Contains-unmapped (λ (o : ObjectView). o.call) objects other among in
    let kept = ap not (ne_eqb it.0.call call (λ same. apart (sym it.2 ∙ same))) in
    subst (Contains (calls_of (without call objects))) it.2
    (Contains-mapped (λ (o : ObjectView). o.call) (without call objects) it.0
    (Contains-kept (λ (o : ObjectView). not (o.call == call)) objects it.0 it.1 kept))

was_held : (call other : ℕ) (objects : List ObjectView) → Contains (calls_of (without call objects)) other → Contains (calls_of objects) other
was_held call other objects among =
    let it = Contains-unmapped (λ (o : ObjectView). o.call) (without call objects) other among in
    subst (Contains (calls_of objects)) it.2
    (Contains-mapped (λ (o : ObjectView). o.call) objects it.0 (Contains-filter (λ (o : ObjectView). not (o.call == call)) objects it.0 it.1).0)

apart_from : (call other : ℕ) → (other == call) ≡ false → other ≢ call
apart_from call other e same = let yes = eq-eqb other call same in absurd (cc)

value_forgotten : (call : ℕ) (objects : List ObjectView) (a : Abs) (v : Option (Value ℕ)) → IsOf (calls_of objects) a v
    → IsOf (calls_of (without call objects)) (forgotten_value call a) v
value_forgotten call objects Unset v h = tt
value_forgotten call objects (Num a) v h = h
value_forgotten call objects (Stk k) v h = h
value_forgotten call objects (Ctx a b) v h = h
value_forgotten call objects (Ob r a b) v h =
    let others = calls_of (without call objects) in
    cond_both (r == call) Unset (Ob r a b) (λ (x : Abs). IsOf others x v) (λ e. tt)
    (λ e. of_others (calls_of objects) others (Ob r a b) v (still_held call r objects (apart_from call r e)) h)
value_forgotten call objects (May r) v h =
    let others = calls_of (without call objects) in
    cond_both (r == call) Unset (May r) (λ (x : Abs). IsOf others x v) (λ e. tt)
    (λ e. of_others (calls_of objects) others (May r) v (still_held call r objects (apart_from call r e), was_held call r objects) h)

cells_forgotten : (call : ℕ) (objects : List ObjectView) (word : Word) (cells : ℕ → Cell ℕ)
    → IsOfCells (calls_of objects) word cells → IsOfCells (calls_of (without call objects)) (forgotten_word call word) cells
cells_forgotten call objects (Spill a) cells h =
    left_spilled (calls_of (without call objects)) (forgotten_value call a) h.0 cells (value_forgotten call objects a (Some h.0) h.1) h.2
cells_forgotten call objects (Bytes mask) cells h = h

pub forgotten_state : (slot call : ℕ) (s : StateView) (frame : Frame ℕ) (objects : List ObjectView) → IsFull slot s
    → AreOf s frame objects → AreOf (forgotten call s) frame (without call objects)
forgotten_state slot call s frame objects full h = record {
  each = λ k lt. subst (λ (a : Abs). IsOf (calls_of (without call objects)) a (get_or frame.registers k None))
      (sym (get_or-map (forgotten_value call) s.registers k Unset Unset (omega (arith, full.whole, lt))))
      (value_forgotten call objects (get_or s.registers k Unset) (get_or frame.registers k None) (h.each k lt));
  words = λ w lt. subst (λ (x : Word). IsOfCells (calls_of (without call objects)) x (λ j. cell_at frame.stack (8 * w + j)))
      (sym (get_or-map (forgotten_word call) s.words w (Bytes 0) (Bytes 0) (omega (arith, full.deep, lt))))
      (cells_forgotten call objects (word_of s.words w) (λ j. cell_at frame.stack (8 * w + j)) (h.words w lt));
  held = λ o there.
      let parts = Contains-filter (λ (p : ObjectView). not (p.call == call)) objects o there in
      kinds_without o.call call s.held (apart_from call o.call (not-true (o.call == call) parts.1)) ∙ h.held o parts.0;
}
