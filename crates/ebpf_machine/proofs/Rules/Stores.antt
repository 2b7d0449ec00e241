-- What is known after a store to the stack that is not refused speaks of the stack that it leaves.
use Rattle.std.proofs.Common.{◌≡◌, ◌≢◌, ℕ, ◌+◌, ◌-◌, ◌*◌, ◌/◌, ◌%◌, ◌<◌, ◌≤◌, ℤ, Bool, true, false, cond, not, ◌&&◌, List, length, length-set, set}
use Rattle.std.proofs.Common.{All, Option, Some, None, Result, Ok, Err, inl, inr, ◌⊎◌, refl, sym, ap, ◌∙◌, subst, arith}
use Rattle.std.specs.Prelude.{◌==◌, bit_or, nat_le, nat_lt}
use Rattle.std.specs.List.{enumerate_from}
use Rattle.std.specs.Int.{bit_at}
use Rattle.std.proofs.lemmas.Bool.{cases_eq, and_parts, and_from, or_from, ne_eqb, eqb-true, leb-true, ltb-true, le-leb, lt-ltb, false_from_ne_true}
use Rattle.std.proofs.lemmas.Bool.{cond-true, cond-false, cond_both}
use Rattle.std.proofs.lemmas.List.{length-map, get_or-map, get_or-set_same, get_or-set_other}
use Rattle.std.proofs.lemmas.List.Elements.{All-get_or, All-from_get_or}
use Rattle.std.proofs.lemmas.List.FromFn.{length-enumerate_from, get_or-enumerate_from}
use Rattle.std.proofs.lemmas.Nat.Bits.{bit_at_or, bit_at-lt, bit_at-zero}
use Rattle.ebpf_insn.specs.declared.insn.Size.{Size}
use Rattle.ebpf_state.specs.declared.value.Abs.{Abs}
use Rattle.ebpf_state.specs.declared.value.Abs.TheVariants.{Unset, Num, Stk, Ctx, Ob, May}
use Rattle.ebpf_state.specs.declared.word.Word.{Word}
use Rattle.ebpf_state.specs.declared.word.Word.TheVariants.{Spill, Bytes}
use Rattle.ebpf_state.specs.declared.stack.StackFault.{StackFault}
use Rattle.ebpf_state.specs.declared.stack.StackFault.TheVariants.{SplitPointer}
use Rattle.ebpf_state.specs.Abstract.{is_unset}
use Rattle.ebpf_state.specs.Words.{spill_or_nothing}
use Rattle.ebpf_state.specs.Stack.{bytes_in, place_of, is_whole_word, covered, word_of, may_point, overwritten, written, written_at, stored_words, stored}
use Rattle.ebpf_state.specs.Stack as state
use Rattle.ebpf_state.specs.StateView.{StateView}
use Rattle.ebpf_machine.specs.declared.value.Value.{Value}
use Rattle.ebpf_machine.specs.declared.value.Value.TheVariants.{Number, Pointer}
use Rattle.ebpf_machine.specs.declared.value.Base.{Base}
use Rattle.ebpf_machine.specs.declared.value.Cell.{Cell}
use Rattle.ebpf_machine.specs.declared.value.Cell.TheVariants as cell
use Rattle.ebpf_machine.specs.Values.{Trap, PointerMisuse}
use Rattle.ebpf_machine.specs.Cells.{cell_at, cell_of, left_over, touches, is_among, stored_cell, stored_cells, is_pointer, stored_at}
use Rattle.ebpf_machine.specs.Concretization.{IsOf, IsByte, IsOfCells}
use Rattle.ebpf_machine.specs.Sound.{FitsValue, FitsCell}
use Rattle.ebpf_machine.proofs.Rules.Words.{AreOfCells, word_cells, same_cells, number_byte, plain_byte, bytes_some, bytes_few, placed_inside}
use Rattle.ebpf_machine.proofs.Rules.Words.{covered_inside, covered_only}

-- a store is done, and what is known after it speaks of the stack that it leaves
pub record IsStored (calls : List ℕ) (s after : StateView) (store : Result (List (Cell ℕ)) Trap) : Type 0 where
  pub stack : List (Cell ℕ)
  pub is : store ≡ Ok stack
  pub deep : length stack ≡ 512
  pub fit : All FitsCell stack
  pub words : AreOfCells calls after.words stack
  pub registers : after.registers ≡ s.registers
  pub held : after.held ≡ s.held

-- ---- cells

length-stored : (place bytes : ℕ) (v : Value ℕ) (stack : List (Cell ℕ)) → length (stored_cells place bytes v stack) ≡ length stack
length-stored place bytes v stack =
    length-map (enumerate_from 0 stack) (λ (p : ℕ × Cell ℕ). stored_cell place bytes v p.0 p.1) ∙ length-enumerate_from 0 stack

cell_stored : (place bytes : ℕ) (v : Value ℕ) (stack : List (Cell ℕ)) (i : ℕ) → i < length stack
    → cell_at (stored_cells place bytes v stack) i ≡ stored_cell place bytes v i (cell_at stack i)
cell_stored place bytes v stack i lt =
    let f = λ (p : ℕ × Cell ℕ). stored_cell place bytes v p.0 p.1 in
    let none : ℕ × Cell ℕ = (0, cell.Unset) in
    let start : 0 + i ≡ i = omega arith in
    get_or-map f (enumerate_from 0 stack) i none cell.Unset (omega (arith, length-enumerate_from 0 stack, lt))
    ∙ ap f (get_or-enumerate_from 0 stack i none lt)
    ∙ ap (λ (k : ℕ). stored_cell place bytes v k (cell_at stack i)) start

left_byte : (c : Cell ℕ) → IsByte c → IsByte (left_over c)
left_byte (cell.Byte b) h = tt
left_byte cell.Unset h = h
left_byte (cell.Part v j) h = absurd h

left_fits : (c : Cell ℕ) → FitsCell c → FitsCell (left_over c)
left_fits (cell.Byte b) h = tt
left_fits cell.Unset h = tt
left_fits (cell.Part v j) h = tt

value_fits : (v : Value ℕ) (j : ℕ) → FitsValue v → FitsCell (cell_of v j)
value_fits (Number n) j h = tt
value_fits (Pointer base k) j h = h

-- what holds of the cells of the value and of those that are left holds of all
each_cell : (P : Cell ℕ → Type 0) (place bytes : ℕ) (v : Value ℕ) (i : ℕ) (old : Cell ℕ) → ((j : ℕ) → P (cell_of v j))
    → P (left_over old) → P old → P (stored_cell place bytes v i old)
each_cell P place bytes v i old value left kept =
    cond_both (is_among place bytes i) (cell_of v (i - place)) (cond (touches place bytes (i / 8)) (left_over old) old) P
    (λ e. value (i - place))
    (λ e. cond_both (touches place bytes (i / 8)) (left_over old) old P (λ e. left) (λ e. kept))

cells_fit : (place bytes : ℕ) (v : Value ℕ) (stack : List (Cell ℕ)) → FitsValue v → All FitsCell stack → All FitsCell (stored_cells place bytes v stack)
cells_fit place bytes v stack fits fit = All-from_get_or FitsCell (stored_cells place bytes v stack) cell.Unset one where
  one : (i : ℕ) → i < length (stored_cells place bytes v stack) → FitsCell (cell_at (stored_cells place bytes v stack) i)
  one i lt =
      let inside : i < length stack = omega (arith, length-stored place bytes v stack, lt) in
      let old = All-get_or FitsCell stack i cell.Unset inside fit in
      subst FitsCell (sym (cell_stored place bytes v stack i inside))
      (each_cell FitsCell place bytes v i (cell_at stack i) (λ j. value_fits v j fits) (left_fits (cell_at stack i) old) old)

-- a cell among the bytes is one of the value
cell_inside : (place bytes : ℕ) (v : Value ℕ) (i : ℕ) (old : Cell ℕ) → place ≤ i → i < place + bytes → stored_cell place bytes v i old ≡ cell_of v (i - place)
cell_inside place bytes v i old low high =
    cond-true (is_among place bytes i) (cell_of v (i - place)) (cond (touches place bytes (i / 8)) (left_over old) old)
    (and_from (nat_le place i) (nat_lt i (place + bytes)) (le-leb place i low) (lt-ltb i (place + bytes) high))

not_among : (place bytes i : ℕ) → (place ≤ i → i < place + bytes → ⊥) → is_among place bytes i ≡ false
not_among place bytes i apart =
    false_from_ne_true (is_among place bytes i)
    (λ e. let both = and_parts (nat_le place i) (nat_lt i (place + bytes)) e in apart (leb-true place i both.0) (ltb-true i (place + bytes) both.1))

-- a cell of a word that they don't lie in is as it was
cell_outside : (place bytes : ℕ) (v : Value ℕ) (i : ℕ) (old : Cell ℕ) → (place ≤ i → i < place + bytes → ⊥) → i / 8 ≢ place / 8
    → i / 8 ≢ (place + bytes - 1) / 8 → stored_cell place bytes v i old ≡ old
cell_outside place bytes v i old apart first last =
    cond-false (is_among place bytes i) (cell_of v (i - place)) (cond (touches place bytes (i / 8)) (left_over old) old) (not_among place bytes i apart)
    ∙ cond-false (touches place bytes (i / 8)) (left_over old) old
    (or_from (i / 8 == place / 8) (i / 8 == (place + bytes - 1) / 8) (ne_eqb (i / 8) (place / 8) first) (ne_eqb (i / 8) ((place + bytes - 1) / 8) last))

-- ---- a word that is written as a whole

-- what is known of a stack, word by word
pub record AreKnown (calls : List ℕ) (words : List Word) (stack : List (Cell ℕ)) : Type 0 where
  pub each : AreOfCells calls words stack
  pub many : length words ≡ 64
  pub deep : length stack ≡ 512
  pub fit : All FitsCell stack

-- what is known of a value
pub record IsKnown (calls : List ℕ) (known : Abs) (v : Value ℕ) : Type 0 where
  pub is_set : is_unset known ≡ false
  pub of : IsOf calls known (Some v)
  pub fits : FitsValue v

-- some bytes, eight at most, lie in the stack from a place on
record AreInside (place bytes : ℕ) : Type 0 where
  some : 0 < bytes
  few : bytes ≤ 8
  inside : place + bytes ≤ 512

whole_word : {calls : List ℕ} {words : List Word} {stack : List (Cell ℕ)} (place : ℕ) {known : Abs} {v : Value ℕ} → place % 8 ≡ 0
    → place + 8 ≤ 512 → AreKnown calls words stack → IsKnown calls known v
    → AreOfCells calls (set words (place / 8) (spill_or_nothing known)) (stored_cells place 8 v stack)
whole_word {calls} {words} {stack} place {known} {v} aligned fits are is w lt = by (cases_eq w (place / 8)) where
  spilled : (a : Abs) → is_unset a ≡ false → spill_or_nothing a ≡ Spill a
  spilled Unset e = absurd (cc)
  spilled (Num a) e = refl
  spilled (Stk k) e = refl
  spilled (Ctx a b) e = refl
  spilled (Ob r a b) e = refl
  spilled (May r) e = refl

  by : (w ≡ place / 8) ⊎ (w ≡ place / 8 → ⊥)
      → IsOfCells calls (word_of (set words (place / 8) (spill_or_nothing known)) w) (word_cells (stored_cells place 8 v stack) w)
  by (inl here) =
      let word : word_of (set words (place / 8) (spill_or_nothing known)) w ≡ Spill known =
      ap (word_of (set words (place / 8) (spill_or_nothing known))) here
      ∙ get_or-set_same words (place / 8) (spill_or_nothing known) (Bytes 0) (omega (arith, are.many, fits)) ∙ spilled known is.is_set in
      subst (λ (x : Word). IsOfCells calls x (word_cells (stored_cells place 8 v stack) w)) (sym word) (v, is.of, written_cell, is.is_set)
    where
      written_cell : (j : ℕ) → j < 8 → cell_at (stored_cells place 8 v stack) (8 * w + j) ≡ cell_of v j
      written_cell j less =
          let back : 8 * w + j - place ≡ j = omega (arith, here, aligned) in
          cell_stored place 8 v stack (8 * w + j) (omega (arith, are.deep, lt, less))
          ∙ cell_inside place 8 v (8 * w + j) (cell_at stack (8 * w + j)) (omega (arith, here, aligned)) (omega (arith, here, aligned, less))
          ∙ ap (cell_of v) back
  by (inr other) =
      let word : word_of (set words (place / 8) (spill_or_nothing known)) w ≡ word_of words w =
      get_or-set_other words (place / 8) w (spill_or_nothing known) (Bytes 0) other in
      subst (λ (x : Word). IsOfCells calls x (word_cells (stored_cells place 8 v stack) w)) (sym word)
      (same_cells calls (word_of words w) (word_cells stack w) (word_cells (stored_cells place 8 v stack) w) kept_cell (are.each w lt))
    where
      kept_cell : (j : ℕ) → j < 8 → cell_at stack (8 * w + j) ≡ cell_at (stored_cells place 8 v stack) (8 * w + j)
      kept_cell j less = sym (
          cell_stored place 8 v stack (8 * w + j) (omega (arith, are.deep, lt, less))
          ∙ cell_outside place 8 v (8 * w + j) (cell_at stack (8 * w + j)) (λ low high. other (omega (arith, aligned)))
          (λ e. other (omega (arith, less))) (λ e. other (omega (arith, less, aligned)))
          )

-- ---- words that are written in part

-- what is known of a word that is written in part: of the bits that are not, what was a byte stays one
written_cells : (calls : List ℕ) (word : Word) (bits : ℕ) (old new : ℕ → Cell ℕ) → IsOfCells calls word old
    → ((j : ℕ) → j < 8 → bit_at bits j ≡ 1 → IsByte (new j)) → ((j : ℕ) → j < 8 → IsByte (old j) → IsByte (new j))
    → (bits ≡ 0 → (j : ℕ) → j < 8 → old j ≡ new j) → IsOfCells calls (written bits word) new
written_cells calls word bits old new h inside kept same =
    cond_both (bits == 0) word (overwritten bits word) (λ (x : Word). IsOfCells calls x new)
    (λ e. same_cells calls word old new (same (eqb-true bits 0 e)) h)
    (λ e. over word h)
  where
    either : (mask j : ℕ) → j < 8 → (bit_at mask j ≡ 1 → IsByte (old j)) → bit_at (bit_or mask bits) j ≡ 1
        → (bit_at mask j ≡ 1) ⊎ (bit_at mask j ≡ 1 → ⊥) → IsByte (new j)
    either mask j lt was bit (inl one) = kept j lt (was one)
    either mask j lt was bit (inr none) = inside j lt (omega (arith, bit_at_or mask bits j, bit, bit_at-lt mask j, bit_at-lt bits j))

    over : (w : Word) → IsOfCells calls w old → IsOfCells calls (overwritten bits w) new
    over (Bytes mask) was = λ j lt bit. either mask j lt (was j lt) bit (cases_eq (bit_at mask j) 1)
    over (Spill (Num a)) was = λ j lt bit. kept j lt (subst IsByte (sym (was.2 j lt)) (number_byte calls a was.0 j was.1))
    over (Spill Unset) was = inside
    over (Spill (Stk k)) was = inside
    over (Spill (Ctx a b)) was = inside
    over (Spill (Ob r a b)) was = inside
    over (Spill (May r)) was = inside

-- the cells of a word where bytes of a number are stored
module _ (place bytes : ℕ) (v : Value ℕ) (stack : List (Cell ℕ)) (w : ℕ) (lt : w < 64) (deep : length stack ≡ 512) (some : 0 < bytes) where
  cell_now : (j : ℕ) → j < 8 → cell_at (stored_cells place bytes v stack) (8 * w + j) ≡ stored_cell place bytes v (8 * w + j) (cell_at stack (8 * w + j))
  cell_now j less = cell_stored place bytes v stack (8 * w + j) (omega (arith, deep, lt, less))

  cell_left : (j : ℕ) → j < 8 → (place ≤ 8 * w + j → 8 * w + j < place + bytes → ⊥) → w ≢ place / 8 → w ≢ (place + bytes - 1) / 8
      → cell_at stack (8 * w + j) ≡ cell_at (stored_cells place bytes v stack) (8 * w + j)
  cell_left j less apart first last =
      let here : (8 * w + j) / 8 ≡ w = omega (arith, less) in
      sym (cell_now j less ∙ cell_outside place bytes v (8 * w + j) (cell_at stack (8 * w + j)) apart (λ e. first (sym here ∙ e)) (λ e. last (sym here ∙ e)))

  -- where no bit is for one of the bytes the word is as it was
  none_written : covered place bytes w ≡ 0 → (j : ℕ) → j < 8 → cell_at stack (8 * w + j) ≡ cell_at (stored_cells place bytes v stack) (8 * w + j)
  none_written none j less = cell_left j less (apart j less)
      (λ e. apart (place % 8) (omega arith) (omega (arith, e)) (omega (arith, e, some)))
      (λ e. apart ((place + bytes - 1) % 8) (omega arith) (omega (arith, e, some)) (omega (arith, e, some)))
    where
      apart : (k : ℕ) → k < 8 → place ≤ 8 * w + k → 8 * w + k < place + bytes → ⊥
      apart k small low high = omega (arith, covered_inside place bytes w k small low high, ap (λ (n : ℕ). bit_at n k) none, bit_at-zero k)

  word_written : (calls : List ℕ) (word : Word) → ((j : ℕ) → IsByte (cell_of v j)) → IsOfCells calls word (word_cells stack w)
      → IsOfCells calls (written (covered place bytes w) word) (word_cells (stored_cells place bytes v stack) w)
  word_written calls word byte h =
      written_cells calls word (covered place bytes w) (word_cells stack w) (word_cells (stored_cells place bytes v stack) w) h inside kept none_written where
        inside : (j : ℕ) → j < 8 → bit_at (covered place bytes w) j ≡ 1 → IsByte (cell_at (stored_cells place bytes v stack) (8 * w + j))
        inside j less bit =
            let both = covered_only place bytes w j less bit in
            subst IsByte (sym (cell_now j less ∙ cell_inside place bytes v (8 * w + j) (cell_at stack (8 * w + j)) both.0 both.1)) (byte (8 * w + j - place))

        kept : (j : ℕ) → j < 8 → IsByte (cell_at stack (8 * w + j)) → IsByte (cell_at (stored_cells place bytes v stack) (8 * w + j))
        kept j less was =
            subst IsByte (sym (cell_now j less))
            (each_cell IsByte place bytes v (8 * w + j) (cell_at stack (8 * w + j)) byte (left_byte (cell_at stack (8 * w + j)) was) was)

abbrev both_written : ℕ → ℕ → List Word → List Word
both_written place bytes words = written_at place bytes (place / 8 + 1) (written_at place bytes (place / 8) words)

-- the words of the first byte and the next one are written, and no others
near_word : (place bytes : ℕ) (words : List Word) (w : ℕ) → w < length words → (w ≡ place / 8) ⊎ (w ≡ place / 8 + 1)
    → word_of (both_written place bytes words) w ≡ written (covered place bytes w) (word_of words w)
near_word place bytes words w lt (inl first) =
    let other : w ≢ place / 8 + 1 = λ e. omega (arith, first) in
    get_or-set_other (written_at place bytes (place / 8) words) (place / 8 + 1) w _ (Bytes 0) other
    ∙ ap (λ (k : ℕ). word_of (written_at place bytes k words) w) (sym first)
    ∙ get_or-set_same words w (written (covered place bytes w) (word_of words w)) (Bytes 0) lt
near_word place bytes words w lt (inr second) =
    let other : w ≢ place / 8 = λ e. omega (arith, second) in
    ap (λ (k : ℕ). word_of (written_at place bytes k (written_at place bytes (place / 8) words)) w) (sym second)
    ∙ get_or-set_same (written_at place bytes (place / 8) words) w _ (Bytes 0)
    (omega (arith, length-set words (place / 8) (written (covered place bytes (place / 8)) (word_of words (place / 8))), lt))
    ∙ ap (written (covered place bytes w)) (get_or-set_other words (place / 8) w _ (Bytes 0) other)

far_word : (place bytes : ℕ) (words : List Word) (w : ℕ) → w ≢ place / 8 → w ≢ place / 8 + 1 → word_of (both_written place bytes words) w ≡ word_of words w
far_word place bytes words w first second =
    get_or-set_other (written_at place bytes (place / 8) words) (place / 8 + 1) w _ (Bytes 0) second
    ∙ get_or-set_other words (place / 8) w _ (Bytes 0) first

part_word : {calls : List ℕ} {words : List Word} {stack : List (Cell ℕ)} {place bytes : ℕ} (v : Value ℕ) → AreInside place bytes
    → AreKnown calls words stack → ((j : ℕ) → IsByte (cell_of v j))
    → AreOfCells calls (both_written place bytes words) (stored_cells place bytes v stack)
part_word {calls} {words} {stack} {place} {bytes} v at are byte w lt = by (cases_eq w (place / 8)) (cases_eq w (place / 8 + 1)) where
  near : (w ≡ place / 8) ⊎ (w ≡ place / 8 + 1)
      → IsOfCells calls (word_of (both_written place bytes words) w) (word_cells (stored_cells place bytes v stack) w)
  near which =
      subst (λ (x : Word). IsOfCells calls x (word_cells (stored_cells place bytes v stack) w))
      (sym (near_word place bytes words w (omega (arith, are.many, lt)) which))
      (word_written place bytes v stack w lt are.deep at.some calls (word_of words w) byte (are.each w lt))

  far : w ≢ place / 8 → w ≢ place / 8 + 1 → IsOfCells calls (word_of (both_written place bytes words) w) (word_cells (stored_cells place bytes v stack) w)
  far first second =
      subst (λ (x : Word). IsOfCells calls x (word_cells (stored_cells place bytes v stack) w)) (sym (far_word place bytes words w first second))
      (same_cells calls (word_of words w) (word_cells stack w) (word_cells (stored_cells place bytes v stack) w) left (are.each w lt))
    where
      left : (j : ℕ) → j < 8 → cell_at stack (8 * w + j) ≡ cell_at (stored_cells place bytes v stack) (8 * w + j)
      left j less =
          cell_left place bytes v stack w lt are.deep at.some j less (λ low high. beyond (omega arith) (omega arith)) first
          (λ e. beyond (omega arith) (omega arith)) where
            beyond : place / 8 ≤ w → w ≤ place / 8 + 1 → ⊥
            beyond low high = omega (arith, first, second)

  by : (w ≡ place / 8) ⊎ (w ≡ place / 8 → ⊥) → (w ≡ place / 8 + 1) ⊎ (w ≡ place / 8 + 1 → ⊥)
      → IsOfCells calls (word_of (both_written place bytes words) w) (word_cells (stored_cells place bytes v stack) w)
  by (inl first) other = near (inl first)
  by (inr first) (inl second) = near (inr second)
  by (inr first) (inr second) = far first second

-- ---- the stack

-- a pointer that is known may be one
pointer_known : (calls : List ℕ) (known : Abs) (base : Base ℕ) (k : ℤ) → is_unset known ≡ false
    → IsOf calls known (Some (Pointer base k)) → may_point known ≡ true
pointer_known calls (Stk x) base k known_set of = refl
pointer_known calls (Ctx a b) base k known_set of = refl
pointer_known calls (Ob r a b) base k known_set of = refl
pointer_known calls (May r) base k known_set of = refl
pointer_known calls (Num a) base k known_set of = absurd of
pointer_known calls Unset base k known_set of = absurd (cc)

-- what is done, where nothing refuses it
done_where : (t : Bool) (fault : StackFault) (x after : StateView) → cond t (Err fault) (Ok x) ≡ Ok after → (t ≡ false) × (x ≡ after)
done_where true fault x after e = absurd (cc)
done_where false fault x after e = (refl, cc)

-- a pointer is stored as a whole
stores_pointer : (calls : List ℕ) (known : Abs) (v : Value ℕ) (whole : Bool) → is_unset known ≡ false → IsOf calls known (Some v)
    → (may_point known && not whole) ≡ false → (is_pointer v && not whole) ≡ false
stores_pointer calls known (Number n) whole known_set of fine = refl
stores_pointer calls known (Pointer base k) whole known_set of fine =
    ap (λ (t : Bool). t && not whole) (sym (pointer_known calls known base k known_set of)) ∙ fine

not_whole : (t : Bool) → (t && not false) ≡ false → t ≡ false
not_whole false e = refl
not_whole true e = absurd (cc)

words_stored : {calls : List ℕ} {words : List Word} {stack : List (Cell ℕ)} {place bytes : ℕ} {known : Abs} {v : Value ℕ} (whole : Bool)
    → is_whole_word place bytes ≡ whole → (may_point known && not whole) ≡ false → AreInside place bytes → AreKnown calls words stack
    → IsKnown calls known v
    → AreOfCells calls (cond whole (set words (place / 8) (spill_or_nothing known)) (both_written place bytes words)) (stored_cells place bytes v stack)
words_stored {calls} {words} {stack} {place} {bytes} {known} {v} true whole fine at are is =
    let parts = and_parts (bytes == 8) (place % 8 == 0) whole in
    let eight : bytes ≡ 8 = eqb-true bytes 8 parts.0 in
    subst (λ (n : ℕ). AreOfCells calls (set words (place / 8) (spill_or_nothing known)) (stored_cells place n v stack)) (sym eight)
    (whole_word place (eqb-true (place % 8) 0 parts.1) (omega (arith, eight, at.inside)) are is)
words_stored {calls} {words} {stack} {place} {bytes} {known} {v} false whole fine at are is =
    part_word v at are (λ j. plain_byte calls known v j is.is_set (not_whole (may_point known) fine) is.of)

placed_store : {calls : List ℕ} (s after : StateView) {stack : List (Cell ℕ)} {place bytes : ℕ} {known : Abs} {v : Value ℕ}
    → AreInside place bytes → AreKnown calls s.words stack → IsKnown calls known v
    → state.stored_at (Some place) bytes known s ≡ Ok after → IsStored calls s after (stored_at (Some place) bytes v stack)
placed_store {calls} s after {stack} {place} {bytes} {known} {v} at are is e =
    let whole = is_whole_word place bytes in
    let now = record s { words = stored_words place bytes known s.words } in
    let done = done_where (may_point known && not whole) SplitPointer now after e in
    let words = words_stored whole refl done.0 at are is in
    record {
      stack = stored_cells place bytes v stack;
      is = cond-false (is_pointer v && not whole) (Err PointerMisuse) (Ok (stored_cells place bytes v stack))
          (stores_pointer calls known v whole is.is_set is.of done.0);
      deep = length-stored place bytes v stack ∙ are.deep;
      fit = cells_fit place bytes v stack is.fits are.fit;
      words = subst (λ (t : StateView). AreOfCells calls t.words (stored_cells place bytes v stack)) done.1 words;
      registers = ap (λ (t : StateView). t.registers) (sym done.1);
      held = ap (λ (t : StateView). t.held) (sym done.1);
    }

found_store : {calls : List ℕ} (s after : StateView) {stack : List (Cell ℕ)} (bytes : ℕ) (o : Option ℕ) {known : Abs} {v : Value ℕ}
    → ((place : ℕ) → o ≡ Some place → AreInside place bytes) → AreKnown calls s.words stack → IsKnown calls known v
    → state.stored_at o bytes known s ≡ Ok after → IsStored calls s after (stored_at o bytes v stack)
found_store s after bytes None at are is e = absurd (cc)
found_store s after bytes (Some place) at are is e = placed_store s after (at place refl) are is e

-- a store to the stack that is not refused
pub stack_store_sound : {calls : List ℕ} (s after : StateView) {stack : List (Cell ℕ)} (size : Size) (offset : ℤ) {known : Abs} {v : Value ℕ}
    → AreKnown calls s.words stack → IsKnown calls known v → stored s size offset known ≡ Ok after
    → IsStored calls s after (stored_at (place_of offset (bytes_in size)) (bytes_in size) v stack)
stack_store_sound s after size offset are is e =
    found_store s after (bytes_in size) (place_of offset (bytes_in size))
    (λ place at. record { some = bytes_some size; few = bytes_few size; inside = placed_inside offset (bytes_in size) place at }) are is e
