-- A state before a slot has all registers, what it knows of their numbers lies below 2^64, and the answers that it knows are
-- those of calls below the slot: the rules keep this.
use Rattle.std.proofs.Common.{◌≡◌, ℕ, zero, suc, ◌+◌, ◌/◌, ◌<◌, ◌≤◌, ℤ, Bool, true, false, eqb, List, [], ◌∷◌, length, get_or, set, Option, Some}
use Rattle.std.proofs.Common.{None, Result, Ok, Err, refl, ◌∙◌, arith, length-set, rules}
use Rattle.std.specs.Prelude.{All, ◌==◌, ◌&&◌, not}
use Rattle.std.specs.Ordering.{int_eq}
use Rattle.std.specs.Int.{int_min, int_max}
use Rattle.std.proofs.lemmas.List.{length-map}
use Rattle.std.proofs.lemmas.List.Elements.{All-get_or, All-set, All-cons, All-tail, All-map, All-replicate}
use Rattle.std.proofs.lemmas.Bool.{cond_both}
use Rattle.ebpf_insn.specs.declared.register.Reg.{Reg}
use Rattle.ebpf_insn.specs.Registers.{number_of}
use Rattle.ebpf_range.specs.declared.range.Range.{Range}
use Rattle.ebpf_range.specs.Interval.{hull}
use Rattle.ebpf_range.proofs.ResultLemmas.{IsBounded}
use Rattle.ebpf_state.specs.declared.value.Abs.{Abs}
use Rattle.ebpf_state.specs.declared.value.Abs.TheVariants.{Unset, Num, Stk, Ctx, Ob, May}
use Rattle.ebpf_insn.specs.declared.insn.Size.{Size}
use Rattle.ebpf_insn.specs.declared.insn.Size.TheVariants as size
use Rattle.ebpf_state.specs.declared.word.Word.{Word}
use Rattle.ebpf_state.specs.declared.word.Word.TheVariants.{Spill, Bytes}
use Rattle.ebpf_state.specs.declared.stack.StackFault.{StackFault}
use Rattle.ebpf_state.specs.declared.stack.StackFault.TheVariants.{SplitPointer}
use Rattle.ebpf_state.specs.Abstract.{joined_value}
use Rattle.ebpf_state.specs.Words.{spill_or_nothing, joined_word}
use Rattle.ebpf_state.specs.Stack.{bytes_in, place_of, is_whole_word, covered, word_of, may_point, loaded_range, read_fault, loaded_number}
use Rattle.ebpf_state.specs.Stack.{loaded_word, loaded_at, loaded, overwritten, written, written_at, stored_words, stored_at, stored}
use Rattle.ebpf_state.specs.StateView.{StateView}
use Rattle.ebpf_state.specs.States.{joined_list, register_of, with_register, first_state}
use Rattle.ebpf_state.specs.References.{answer_known, settled_value, settled_word, settled, forgotten_value, forgotten_word, forgotten}

abbrev pub IsBoundedValue : ℕ → Abs → Type 0
IsBoundedValue slot (Num a) = IsBounded a
IsBoundedValue slot (May call) = call < slot
IsBoundedValue slot _ = Unit {0}

abbrev pub IsBoundedWord : ℕ → Word → Type 0
IsBoundedWord slot (Spill a) = IsBoundedValue slot a
IsBoundedWord slot (Bytes mask) = Unit {0}

pub record IsFull (slot : ℕ) (s : StateView) : Type 0 where
  pub whole : length s.registers ≡ 11
  pub bounded : All (IsBoundedValue slot) s.registers
  pub deep : length s.words ≡ 64
  pub bounded_words : All (IsBoundedWord slot) s.words

pub number_of-lt : (r : Reg) → number_of r < 11
number_of-lt r = search rules

-- ---- registers

pub register_bounded : (slot : ℕ) (s : StateView) (r : Reg) → IsFull slot s → IsBoundedValue slot (register_of s r)
register_bounded slot s r h = let room = number_of-lt r in All-get_or (IsBoundedValue slot) s.registers (number_of r) Unset (omega (arith, h.whole)) h.bounded

pub with_register-full : (slot : ℕ) (s : StateView) (r : Reg) (a : Abs) → IsFull slot s → IsBoundedValue slot a → IsFull slot (with_register s r a)
with_register-full slot s r a h b = record { whole = length-set s.registers (number_of r) a ∙ h.whole; bounded = All-set (IsBoundedValue slot) s.registers (number_of r) a b h.bounded; deep = h.deep; bounded_words = h.bounded_words }

-- ---- a higher slot

value_weaker : (slot higher : ℕ) (a : Abs) → slot ≤ higher → IsBoundedValue slot a → IsBoundedValue higher a
value_weaker slot higher (May call) le h = omega (arith, le, h)
value_weaker slot higher (Num a) le h = h
value_weaker slot higher _ le h = tt

word_weaker : (slot higher : ℕ) (w : Word) → slot ≤ higher → IsBoundedWord slot w → IsBoundedWord higher w
word_weaker slot higher (Spill a) le h = value_weaker slot higher a le h
word_weaker slot higher (Bytes mask) le h = tt

pub full_weaker : (slot higher : ℕ) (s : StateView) → slot ≤ higher → IsFull slot s → IsFull higher s
full_weaker slot higher s le h = record {
  whole = h.whole;
  bounded = λ k d lt. value_weaker slot higher (get_or s.registers k d) le (h.bounded k d lt);
  deep = h.deep;
  bounded_words = λ k d lt. word_weaker slot higher (get_or s.words k d) le (h.bounded_words k d lt);
}

-- ---- joins

hull_bounded : (a b : Range) → IsBounded a → IsBounded b → IsBounded (hull a b)
hull_bounded a b h k = omega (arith, h, k)

joined_bounded : (slot : ℕ) (a b : Abs) → IsBoundedValue slot a → IsBoundedValue slot b → IsBoundedValue slot (joined_value a b)
joined_bounded slot (Num a) (Num b) h k = hull_bounded a b h k
joined_bounded slot (Stk a) (Stk b) h k = cond_both (int_eq a b) (Stk a) Unset (IsBoundedValue slot) (λ e. tt) (λ e. tt)
joined_bounded slot (Ctx a b) (Ctx c d) h k = tt
joined_bounded slot (Ob r a b) (Ob q c d) h k = cond_both (eqb r q) (Ob r (int_min a c) (int_max b d)) Unset (IsBoundedValue slot) (λ e. tt) (λ e. tt)
joined_bounded slot (May r) (May q) h k = cond_both (eqb r q) (May r) Unset (IsBoundedValue slot) (λ e. h) (λ e. tt)
joined_bounded slot _ _ h k = tt

spill_bounded : (slot : ℕ) (a : Abs) → IsBoundedValue slot a → IsBoundedWord slot (spill_or_nothing a)
spill_bounded slot Unset h = tt
spill_bounded slot (Num a) h = h
spill_bounded slot (Stk k) h = tt
spill_bounded slot (Ctx a b) h = tt
spill_bounded slot (Ob r a b) h = tt
spill_bounded slot (May r) h = h

joined_word_bounded : (slot : ℕ) (a b : Word) → IsBoundedWord slot a → IsBoundedWord slot b → IsBoundedWord slot (joined_word a b)
joined_word_bounded slot (Bytes m) (Bytes n) h k = tt
joined_word_bounded slot (Spill (Num a)) (Bytes n) h k = tt
joined_word_bounded slot (Bytes m) (Spill (Num b)) h k = tt
joined_word_bounded slot (Spill a) (Spill b) h k = spill_bounded slot (joined_value a b) (joined_bounded slot a b h k)
joined_word_bounded slot _ _ h k = tt

joined_all : {X : Type 0} (join : X → X → X) (P : X → Type 0) (s t : List X) → ((a b : X) → P a → P b → P (join a b)) → All P s
    → All P t → All P (joined_list join s t)
joined_all join P [] t keeps h k = λ i d lt. absurd (omega (arith, lt))
joined_all join P (a ∷ s) [] keeps h k = λ i d lt. absurd (omega (arith, lt))
joined_all join P (a ∷ s) (b ∷ t) keeps h k =
    All-cons P (join a b) (joined_list join s t) (keeps a b (h 0 a (omega arith)) (k 0 b (omega arith)))
    (joined_all join P s t keeps (All-tail P a s h) (All-tail P b t k))

pub joined_registers_bounded : (slot : ℕ) (s t : List Abs) → All (IsBoundedValue slot) s → All (IsBoundedValue slot) t
    → All (IsBoundedValue slot) (joined_list joined_value s t)
joined_registers_bounded slot s t h k = joined_all joined_value (IsBoundedValue slot) s t (joined_bounded slot) h k

pub joined_words_bounded : (slot : ℕ) (s t : List Word) → All (IsBoundedWord slot) s → All (IsBoundedWord slot) t
    → All (IsBoundedWord slot) (joined_list joined_word s t)
joined_words_bounded slot s t h k = joined_all joined_word (IsBoundedWord slot) s t (joined_word_bounded slot) h k

-- ---- answers that were compared with null

answer_bounded : (slot call : ℕ) (null : Bool) → IsBoundedValue slot (answer_known call null)
answer_bounded slot call true = omega arith
answer_bounded slot call false = tt

settled_bounded : (slot call : ℕ) (null : Bool) (a : Abs) → IsBoundedValue slot a → IsBoundedValue slot (settled_value call null a)
settled_bounded slot call null (Num a) h = h
settled_bounded slot call null (May r) h =
    cond_both (r == call) (answer_known call null) (May r) (IsBoundedValue slot) (λ e. answer_bounded slot call null) (λ e. h)
settled_bounded slot call null _ h = tt

settled_word_bounded : (slot call : ℕ) (null : Bool) (w : Word) → IsBoundedWord slot w → IsBoundedWord slot (settled_word call null w)
settled_word_bounded slot call null (Spill a) h = settled_bounded slot call null a h
settled_word_bounded slot call null (Bytes mask) h = tt

pub settled-full : (slot call : ℕ) (null : Bool) (s : StateView) → IsFull slot s → IsFull slot (settled call null s)
settled-full slot call null s h = record {
  whole = length-map s.registers (settled_value call null) ∙ h.whole;
  bounded = All-map (IsBoundedValue slot) (settled_value call null) s.registers (λ k d lt. settled_bounded slot call null (get_or s.registers k d) (h.bounded k d lt));
  deep = length-map s.words (settled_word call null) ∙ h.deep;
  bounded_words = All-map (IsBoundedWord slot) (settled_word call null) s.words (λ k d lt. settled_word_bounded slot call null (get_or s.words k d) (h.bounded_words k d lt));
}

-- ---- objects that were given back

forgotten_bounded : (slot call : ℕ) (a : Abs) → IsBoundedValue slot a → IsBoundedValue slot (forgotten_value call a)
forgotten_bounded slot call (Num a) h = h
forgotten_bounded slot call (May r) h = cond_both (r == call) Unset (May r) (IsBoundedValue slot) (λ e. tt) (λ e. h)
forgotten_bounded slot call (Ob r a b) h = cond_both (r == call) Unset (Ob r a b) (IsBoundedValue slot) (λ e. tt) (λ e. tt)
forgotten_bounded slot call _ h = tt

forgotten_word_bounded : (slot call : ℕ) (w : Word) → IsBoundedWord slot w → IsBoundedWord slot (forgotten_word call w)
forgotten_word_bounded slot call (Spill a) h = spill_bounded slot (forgotten_value call a) (forgotten_bounded slot call a h)
forgotten_word_bounded slot call (Bytes mask) h = tt

pub forgotten-full : (slot call : ℕ) (s : StateView) → IsFull slot s → IsFull slot (forgotten call s)
forgotten-full slot call s h = record {
  whole = length-map s.registers (forgotten_value call) ∙ h.whole;
  bounded =
      All-map (IsBoundedValue slot) (forgotten_value call) s.registers (λ k d lt. forgotten_bounded slot call (get_or s.registers k d) (h.bounded k d lt));
  deep = length-map s.words (forgotten_word call) ∙ h.deep;
  bounded_words =
      All-map (IsBoundedWord slot) (forgotten_word call) s.words (λ k d lt. forgotten_word_bounded slot call (get_or s.words k d) (h.bounded_words k d lt));
}

-- ---- stores

set_all : {X : Type 0} (P : X → Type 0) (xs : List X) (k : ℕ) (a : X) → P a → All P xs → All P (set xs k a)
set_all P xs k a h all = All-set P xs k a h all

overwritten_bounded : (slot bits : ℕ) (w : Word) → IsBoundedWord slot (overwritten bits w)
overwritten_bounded slot bits (Bytes mask) = tt
overwritten_bounded slot bits (Spill (Num a)) = tt
overwritten_bounded slot bits (Spill Unset) = tt
overwritten_bounded slot bits (Spill (Stk k)) = tt
overwritten_bounded slot bits (Spill (Ctx a b)) = tt
overwritten_bounded slot bits (Spill (Ob r a b)) = tt
overwritten_bounded slot bits (Spill (May r)) = tt

pub word_bounded : (slot : ℕ) (words : List Word) (w : ℕ) → All (IsBoundedWord slot) words → IsBoundedWord slot (word_of words w)
word_bounded slot [] w h = tt
word_bounded slot (x ∷ words) zero h = h 0 x (omega arith)
word_bounded slot (x ∷ words) (suc w) h = word_bounded slot words w (All-tail (IsBoundedWord slot) x words h)

written_bounded : (slot place bytes w : ℕ) (words : List Word) → All (IsBoundedWord slot) words → All (IsBoundedWord slot) (written_at place bytes w words)
written_bounded slot place bytes w words h =
    set_all (IsBoundedWord slot) words w (written (covered place bytes w) (word_of words w))
    (cond_both (covered place bytes w == 0) (word_of words w) (overwritten (covered place bytes w) (word_of words w)) (IsBoundedWord slot) (λ e. word_bounded slot words w h) (λ e. overwritten_bounded slot (covered place bytes w) (word_of words w))) h

stored_words_bounded : (slot place bytes : ℕ) (value : Abs) (words : List Word) → IsBoundedValue slot value
    → All (IsBoundedWord slot) words → All (IsBoundedWord slot) (stored_words place bytes value words)
stored_words_bounded slot place bytes value words b h =
    cond_both (is_whole_word place bytes) (set words (place / 8) (spill_or_nothing value)) (written_at place bytes (place / 8 + 1) (written_at place bytes (place / 8) words)) (All (IsBoundedWord slot))
    (λ e. set_all (IsBoundedWord slot) words (place / 8) (spill_or_nothing value) (spill_bounded slot value b) h)
    (λ e. written_bounded slot place bytes (place / 8 + 1) (written_at place bytes (place / 8) words) (written_bounded slot place bytes (place / 8) words h))

stored_words_length : (place bytes : ℕ) (value : Abs) (words : List Word) → length (stored_words place bytes value words) ≡ length words
stored_words_length place bytes value words =
    cond_both (is_whole_word place bytes) (set words (place / 8) (spill_or_nothing value)) (written_at place bytes (place / 8 + 1) (written_at place bytes (place / 8) words)) (λ (ws : List Word). length ws ≡ length words)
    (λ e. length-set words (place / 8) (spill_or_nothing value))
    (λ e. length-set (written_at place bytes (place / 8) words) (place / 8 + 1) _ ∙ length-set words (place / 8) _)

-- a stack that is stored to
abbrev pub IsFullStore : ℕ → Result StateView StackFault → Type 0
IsFullStore slot (Ok s) = IsFull slot s
IsFullStore slot (Err fault) = Unit {0}

pub stored-full : (slot : ℕ) (s : StateView) (size : Size) (offset : ℤ) (value : Abs) → IsFull slot s → IsBoundedValue slot value
    → IsFullStore slot (stored s size offset value)
stored-full slot s size offset value h b = at (place_of offset (bytes_in size)) where
  done : (place : ℕ) → IsFull slot (record s { words = stored_words place (bytes_in size) value s.words })
  done place = record { whole = h.whole; bounded = h.bounded; deep = stored_words_length place (bytes_in size) value s.words ∙ h.deep; bounded_words = stored_words_bounded slot place (bytes_in size) value s.words b h.bounded_words }

  at : (place : Option ℕ) → IsFullStore slot (stored_at place (bytes_in size) value s)
  at None = tt
  at (Some place) = cond_both (may_point value && not (is_whole_word place (bytes_in size))) (Err SplitPointer) (Ok (record s { words = stored_words place (bytes_in size) value s.words })) (IsFullStore slot) (λ e. tt) (λ e. done place)

-- ---- loads

loaded_range_bounded : (size : Size) (signed : Bool) → IsBounded (loaded_range (bytes_in size) signed)
loaded_range_bounded size true = omega arith
loaded_range_bounded size.B false = omega arith
loaded_range_bounded size.H false = omega arith
loaded_range_bounded size.W false = omega arith
loaded_range_bounded size.D false = omega arith

abbrev pub IsBoundedLoad : ℕ → Result Abs StackFault → Type 0
IsBoundedLoad slot (Ok a) = IsBoundedValue slot a
IsBoundedLoad slot (Err fault) = Unit {0}

number_bounded : (slot : ℕ) (fault : Option StackFault) (size : Size) (signed : Bool) → IsBoundedLoad slot (loaded_number fault (bytes_in size) signed)
number_bounded slot None size signed = loaded_range_bounded size signed
number_bounded slot (Some fault) size signed = tt

loaded_word_bounded : (slot : ℕ) (w : Word) (fault : Option StackFault) (size : Size) (signed : Bool) → IsBoundedWord slot w
    → IsBoundedLoad slot (loaded_word w fault (bytes_in size) signed)
loaded_word_bounded slot (Spill a) fault size signed h = h
loaded_word_bounded slot (Bytes mask) fault size signed h = number_bounded slot fault size signed

pub loaded-bounded : (slot : ℕ) (s : StateView) (size : Size) (signed : Bool) (offset : ℤ) → IsFull slot s → IsBoundedLoad slot (loaded s size signed offset)
loaded-bounded slot s size signed offset h = at (place_of offset (bytes_in size)) where
  at : (place : Option ℕ) → IsBoundedLoad slot (loaded_at place (bytes_in size) signed s.words)
  at None = tt
  at (Some place) =
      let fault = read_fault place (bytes_in size) s.words in
      cond_both (is_whole_word place (bytes_in size)) (loaded_word (word_of s.words (place / 8)) fault (bytes_in size) signed) (loaded_number fault (bytes_in size) signed) (IsBoundedLoad slot)
      (λ e. loaded_word_bounded slot (word_of s.words (place / 8)) fault size signed (word_bounded slot s.words (place / 8) h.bounded_words)) (λ e. number_bounded slot fault size signed)

pub context_bounded : (slot : ℕ) (size : Size) (signed : Bool) → IsBoundedValue slot (Num (loaded_range (bytes_in size) signed))
context_bounded slot size signed = loaded_range_bounded size signed

-- ---- the first state

pub first-full : IsFull 0 first_state
first-full = record { whole = refl; bounded = each; deep = refl; bounded_words = All-replicate (IsBoundedWord 0) 64 (Bytes 0) tt } where
  each : All (IsBoundedValue 0) first_state.registers
  each zero d lt = tt
  each (suc zero) d lt = tt
  each (suc (suc zero)) d lt = tt
  each (suc (suc (suc zero))) d lt = tt
  each (suc (suc (suc (suc zero)))) d lt = tt
  each (suc (suc (suc (suc (suc zero))))) d lt = tt
  each (suc (suc (suc (suc (suc (suc zero)))))) d lt = tt
  each (suc (suc (suc (suc (suc (suc (suc zero))))))) d lt = tt
  each (suc (suc (suc (suc (suc (suc (suc (suc zero)))))))) d lt = tt
  each (suc (suc (suc (suc (suc (suc (suc (suc (suc zero))))))))) d lt = tt
  each (suc (suc (suc (suc (suc (suc (suc (suc (suc (suc zero)))))))))) d lt = tt
  each (suc (suc (suc (suc (suc (suc (suc (suc (suc (suc (suc k))))))))))) d lt = absurd (omega (arith, lt))
