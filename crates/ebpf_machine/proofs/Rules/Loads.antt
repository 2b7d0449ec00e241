-- What is known of what is loaded speaks of it: of a load from the stack that is not refused, and of one from the context or an
-- object.
use Rattle.std.proofs.Common.{◌≡◌, ℕ, zero, suc, ◌+◌, ◌-◌, ◌*◌, ◌/◌, ◌%◌, ◌^◌, ◌<◌, ◌≤◌, ℤ, pos, ◌+ℤ◌, ◌≤ℤ◌, Bool, true, false, cond, not, ◌&&◌}
use Rattle.std.proofs.Common.{◌||◌, List, [], ◌∷◌, length, get_or, drop, All, Option, Some, None, Result, Ok, inl, inr, ◌⊎◌, refl, sym, ap, ◌∙◌}
use Rattle.std.proofs.Common.{subst, arith}
use Rattle.std.specs.Prelude.{◌==◌, bit_and, int_le, nat_lt, nat_abs, slice_index}
use Rattle.std.specs.Ordering.{int_eq}
use Rattle.std.specs.Int.{bit_at, byte_at, bytes_low_first}
use Rattle.std.proofs.Math.Nat.{mod-lt}
use Rattle.std.proofs.lemmas.Bool.{cases_lt, and_parts, and_from, eq-eqb, eqb-true, not-false, cond-true, cond_both}
use Rattle.std.proofs.lemmas.Bool.Decides.{Decides-int_eq}
use Rattle.std.proofs.lemmas.Int.{ints}
use Rattle.std.proofs.lemmas.List.{get_or_past}
use Rattle.std.proofs.lemmas.List.Elements.{All-get_or}
use Rattle.std.proofs.lemmas.Nat.Bits.{bit_at_and, bit_at-lt, bit_at-zero}
use Rattle.byteorder.specs.Endian.{little_from, little_number}
use Rattle.byteorder.specs.Numbers.{little_number-reads_back}
use Rattle.ebpf_insn.specs.declared.insn.Size.{Size}
use Rattle.ebpf_insn.specs.declared.insn.Size.TheVariants.{B, H, W, D}
use Rattle.ebpf_insn.specs.declared.insn.Width.TheVariants.{W64}
use Rattle.ebpf_insn.specs.Arithmetic.{extension_at}
use Rattle.ebpf_insn.specs.Faults.{first_of}
use Rattle.ebpf_range.specs.Interval.{IsWithin, all_below}
use Rattle.ebpf_range.proofs.ResultLemmas.{extension-below}
use Rattle.ebpf_state.specs.declared.value.Abs.{Abs}
use Rattle.ebpf_state.specs.declared.value.Abs.TheVariants.{Unset, Num, Stk, Ctx, Ob, May}
use Rattle.ebpf_state.specs.declared.word.Word.{Word}
use Rattle.ebpf_state.specs.declared.word.Word.TheVariants.{Spill, Bytes}
use Rattle.ebpf_state.specs.declared.stack.StackFault.{StackFault}
use Rattle.ebpf_state.specs.declared.stack.StackFault.TheVariants.{UnsetByte, SplitPointer}
use Rattle.ebpf_state.specs.Abstract.{is_unset}
use Rattle.ebpf_state.specs.Stack.{bytes_in, place_of, covered, word_of, may_point, is_unset_in, is_split_in, read_fault, loaded_range, loaded}
use Rattle.ebpf_state.specs.Stack as state
use Rattle.ebpf_state.specs.StateView.{StateView}
use Rattle.ebpf_verify.specs.Memory.{is_in_bounds}
use Rattle.ebpf_machine.specs.declared.value.Value.{Value}
use Rattle.ebpf_machine.specs.declared.value.Value.TheVariants.{Number, Pointer}
use Rattle.ebpf_machine.specs.declared.value.Base.TheVariants.{Stack, Context, Object}
use Rattle.ebpf_machine.specs.declared.value.Cell.{Cell}
use Rattle.ebpf_machine.specs.declared.value.Cell.TheVariants as cell
use Rattle.ebpf_machine.specs.Values.{Trap}
use Rattle.ebpf_machine.specs.Cells.{cell_at, cell_of, is_same_pointer, is_part, are_parts, pointer_from, with_byte, number_from, extended}
use Rattle.ebpf_machine.specs.Cells.{loaded_number, loaded_word, loaded_at, place_in, read_at}
use Rattle.ebpf_machine.specs.Concretization.{IsOf, IsByte, IsOfCells}
use Rattle.ebpf_machine.specs.Sound.{FitsCell}
use Rattle.ebpf_machine.proofs.Rules.Operations.{IsFitting}
use Rattle.ebpf_machine.proofs.Rules.Words.{AreOfCells, word_cells, plain_byte, bytes_few, placed_inside, covered_inside}

-- ---- the number that is loaded

within_all : (m x : ℕ) → x < m → m ≤ 2 ^ 64 → IsWithin x (all_below m) × (x < 2 ^ 64)
within_all m x lt le = ((omega arith, omega arith), omega arith)

low_within : (m n : ℕ) → 0 < m → m ≤ 2 ^ 64 → IsWithin (n % m) (all_below m) × (n % m < 2 ^ 64)
low_within m n some le = within_all m (n % m) (mod-lt n some) le

-- n bytes are of the range that their rule says
extended_within : (size : Size) (signed : Bool) (n : ℕ)
    → IsWithin (extended (bytes_in size) signed n) (loaded_range (bytes_in size) signed) × (extended (bytes_in size) signed n < 2 ^ 64)
extended_within size true n = within_all (2 ^ 64) (extension_at W64 (8 * bytes_in size) n) (extension-below W64 (8 * bytes_in size) n) (omega arith)
extended_within B false n = low_within (2 ^ 8) n (omega arith) (omega arith)
extended_within H false n = low_within (2 ^ 16) n (omega arith) (omega arith)
extended_within W false n = low_within (2 ^ 32) n (omega arith) (omega arith)
extended_within D false n = low_within (2 ^ 64) n (omega arith) (omega arith)

with_one : (c : Cell ℕ) (o : Option ℕ) (m : ℕ) → IsByte c → o ≡ Some m → (k : ℕ) × (with_byte c o ≡ Some k)
with_one cell.Unset o m h e = absurd h
with_one (cell.Part v j) o m h e = absurd h
with_one (cell.Byte b) None m h e = absurd (cc)
with_one (cell.Byte b) (Some n) m h e = (b + 256 * n, refl)

-- bytes at places side by side are a number
bytes_number : (stack : List (Cell ℕ)) (place n : ℕ) → ((i : ℕ) → place ≤ i → i < place + n → IsByte (cell_at stack i))
    → (m : ℕ) × (number_from stack place n ≡ Some m)
unfolding number_from
bytes_number stack place zero h = (0, refl)
bytes_number stack place (suc n) h =
    let rest = bytes_number stack (suc place) n (λ i low high. h i (omega (arith, low)) (omega (arith, high))) in
    with_one (cell_at stack place) (number_from stack (suc place) n) rest.0 (h place (omega arith) (omega arith)) rest.1

-- ---- the bytes that are read

not_split : (none point : Bool) → none ≡ false → (not none && point) ≡ false → point ≡ false
not_split false point e h = h
not_split true point e h = absurd (cc)

has_bit : (bits j : ℕ) (t : Bool) → (bits == 0) ≡ t → bit_at bits j ≡ 1 → (bits == 0) ≡ false
has_bit bits j false e bit = e
has_bit bits j true e bit = absurd (omega (arith, ap (λ (n : ℕ). bit_at n j) (eqb-true bits 0 e), bit_at-zero j, bit))

-- a byte of a word of which all bits that are read are set, and no pointer
readable : (calls : List ℕ) (word : Word) (cells : ℕ → Cell ℕ) (bits j : ℕ) → IsOfCells calls word cells
    → is_unset_in bits word ≡ false → is_split_in bits word ≡ false → j < 8 → bit_at bits j ≡ 1 → IsByte (cells j)
readable calls (Bytes mask) cells bits j h set whole lt bit =
    let all = eqb-true (bit_and bits mask) bits (not-false (bit_and bits mask == bits) set) in
    h j lt (omega (arith, bit_at_and bits mask j, ap (λ (n : ℕ). bit_at n j) all, bit_at-lt mask j, bit))
readable calls (Spill a) cells bits j h set whole lt bit =
    let plain = not_split (bits == 0) (may_point a) (has_bit bits j (bits == 0) refl bit) whole in
    subst IsByte (sym (h.2 j lt)) (plain_byte calls a h.0 j h.3 plain h.1)

no_fault : (a b c d : Bool) → first_of ((a || b, UnsetByte) ∷ (c || d, SplitPointer) ∷ []) ≡ None → (a ≡ false) × (b ≡ false) × (c ≡ false) × (d ≡ false)
no_fault false false false false e = (refl, refl, refl, refl)
no_fault _ _ _ _ e = absurd (cc)

-- what is tested of a word that they lie in
abbrev unset_at : ℕ → ℕ → List Word → ℕ → Bool
unset_at place bytes words w = is_unset_in (covered place bytes w) (word_of words w)

abbrev split_at : ℕ → ℕ → List Word → ℕ → Bool
split_at place bytes words w = is_split_in (covered place bytes w) (word_of words w)

-- where no fault is found all of them are bytes
read_bytes : (calls : List ℕ) (words : List Word) (stack : List (Cell ℕ)) (place bytes : ℕ) → AreOfCells calls words stack
    → bytes ≤ 8 → place + bytes ≤ 512 → read_fault place bytes words ≡ None → (i : ℕ) → place ≤ i → i < place + bytes
    → IsByte (cell_at stack i)
read_bytes calls words stack place bytes h few fits e i low high = by (cases_lt (i / 8) (place / 8 + 1)) where
  in_word : (w : ℕ) → i / 8 ≡ w → unset_at place bytes words w ≡ false → split_at place bytes words w ≡ false → IsByte (cell_at stack i)
  in_word w at set whole =
      let same : 8 * w + i % 8 ≡ i = omega arith in
      let lt : i % 8 < 8 = omega arith in
      subst (λ (k : ℕ). IsByte (cell_at stack k)) same
      (readable calls (word_of words w) (word_cells stack w) (covered place bytes w) (i % 8) (h w (omega arith)) set whole lt
      (covered_inside place bytes w (i % 8) lt (omega arith) (omega arith)))

  by : (i / 8 < place / 8 + 1) ⊎ (place / 8 + 1 ≤ i / 8) → IsByte (cell_at stack i)
  by which =
      let parts = no_fault (unset_at place bytes words (place / 8)) (unset_at place bytes words (place / 8 + 1)) (split_at place bytes words (place / 8))
      (split_at place bytes words (place / 8 + 1)) e in
      elim which [
        | inl below ↦ in_word (place / 8) (omega arith) parts.0 parts.2
        | inr above ↦ in_word (place / 8 + 1) (omega arith) parts.1 parts.3
      ]

-- ---- numbers

number_loaded : (calls : List ℕ) (known : Abs) (size : Size) (signed : Bool) (fault : Option StackFault) (n : Option ℕ)
    → (fault ≡ None → (m : ℕ) × (n ≡ Some m)) → state.loaded_number fault (bytes_in size) signed ≡ Ok known
    → IsFitting calls known (loaded_number n (bytes_in size) signed)
number_loaded calls known size signed (Some fault) n h e = absurd (cc)
number_loaded calls known size signed None n h e =
    let found = h refl in
    let same : Num (loaded_range (bytes_in size) signed) ≡ known = cc in
    record {
      v = Number (extended (bytes_in size) signed found.0);
      fits = tt;
      of = subst (λ (a : Abs). IsOf calls a (Some (Number (extended (bytes_in size) signed found.0)))) same (extended_within size signed found.0);
      is = ap (λ (o : Option ℕ). loaded_number {N = ℕ} o (bytes_in size) signed) found.1;
    }

-- ---- whole words

-- the number whose bytes lie in the cells from a place on
number_at : (stack : List (Cell ℕ)) (xs : List ℕ) (place i k : ℕ)
    → ((j : ℕ) → j < i + k → cell_at stack (place + j) ≡ cell.Byte (slice_index xs j))
    → number_from stack (place + i) k ≡ Some (little_from i k xs)
unfolding number_from
number_at stack xs place i zero h = refl
number_at stack xs place i (suc k) h =
    let on : suc (place + i) ≡ place + suc i = omega arith in
    let rest = number_at stack xs place (suc i) k (λ j lt. h j (omega (arith, lt))) in
    ap (λ (p : ℕ). with_byte (cell_at stack (place + i)) (number_from stack p k)) on
    ∙ ap (λ (o : Option ℕ). with_byte (cell_at stack (place + i)) o) rest
    ∙ ap (λ (c : Cell ℕ). with_byte c (Some (little_from (suc i) k xs))) (h i (omega arith))

low_byte : (k i j n : ℕ) → j < k → get_or (bytes_low_first i k n) j 0 ≡ byte_at (i + j) n
low_byte zero i j n lt = absurd (omega (arith, lt))
low_byte (suc k) i zero n lt = let same : i ≡ i + 0 = omega arith in ap (λ (p : ℕ). byte_at p n) same
low_byte (suc k) i (suc j) n lt =
    let same : suc i + j ≡ i + suc j = omega arith in low_byte k (suc i) j n (omega (arith, lt)) ∙ ap (λ (p : ℕ). byte_at p n) same

-- a number that was stored as a word is that number again
number_again : (stack : List (Cell ℕ)) (place n : ℕ) → n < 2 ^ 64
    → ((j : ℕ) → j < 8 → cell_at stack (place + j) ≡ cell.Byte (byte_at j n)) → number_from stack place 8 ≡ Some n
number_again stack place n fits h =
    let start : place ≡ place + 0 = omega arith in
    let read = number_at stack (bytes_low_first 0 8 n) place 0 8
    (λ j lt. h j (omega (arith, lt)) ∙ ap cell.Byte (ap (λ (p : ℕ). byte_at p n) (omega arith) ∙ sym (low_byte 8 0 j n (omega (arith, lt))))) in
    ap (λ (p : ℕ). number_from stack p 8) start ∙ read ∙ ap Some (little_number-reads_back 8 n [] fits)

-- all eight bytes of it are its low bits
number_same : (signed : Bool) (n : ℕ) → n < 2 ^ 64 → extended 8 signed n ≡ n
number_same false n fits = omega (arith, fits)
number_same true n fits =
    cond_both (nat_lt (n % 2 ^ 64 * 2) (2 ^ 64)) (n % 2 ^ 64) (n % 2 ^ 64 + (2 ^ 64 - 2 ^ 64)) (λ (m : ℕ). m ≡ n) (λ e. omega (arith, fits))
    (λ e. omega (arith, fits))

no_pointer : (c : Cell ℕ) (stack : List (Cell ℕ)) (place : ℕ) → IsByte c → pointer_from ◌==◌ c stack place ≡ None
no_pointer cell.Unset stack place h = refl
no_pointer (cell.Byte b) stack place h = refl
no_pointer (cell.Part v j) stack place h = absurd h

int_same : (k : ℤ) → int_eq k k ≡ true
int_same k = (Decides-int_eq k k).1 refl

pointer_same : (v : Value ℕ) → ((n : ℕ) → v ≡ Number n → ⊥) → is_same_pointer ◌==◌ v v ≡ true
pointer_same (Number n) h = absurd (h n refl)
pointer_same (Pointer Stack k) h = int_same k
pointer_same (Pointer Context k) h = int_same k
pointer_same (Pointer (Object name) k) h = and_from (name == name) (int_eq k k) (eq-eqb name name refl) (int_same k)

parts_there : (v : Value ℕ) (stack : List (Cell ℕ)) (place n : ℕ) → is_same_pointer ◌==◌ v v ≡ true → n ≤ 8
    → ((j : ℕ) → j < 8 → cell_at stack (place + j) ≡ cell.Part v j) → are_parts ◌==◌ v stack place n ≡ true
unfolding are_parts
parts_there v stack place zero same le h = refl
parts_there v stack place (suc n) same le h =
    and_from (are_parts ◌==◌ v stack place n) (is_part ◌==◌ v n (cell_at stack (place + n)))
    (parts_there v stack place n same (omega (arith, le)) h)
    (ap (is_part ◌==◌ v n) (h n (omega (arith, le))) ∙ and_from (is_same_pointer ◌==◌ v v) (n == n) same (eq-eqb n n refl))

-- a pointer that was stored as a word is that pointer again
pointer_again : (v : Value ℕ) (stack : List (Cell ℕ)) (place : ℕ) → is_same_pointer ◌==◌ v v ≡ true
    → ((j : ℕ) → j < 8 → cell_at stack (place + j) ≡ cell.Part v j) → pointer_from ◌==◌ (cell_at stack place) stack place ≡ Some v
pointer_again v stack place same h =
    let start : place ≡ place + 0 = omega arith in
    ap (λ (c : Cell ℕ). pointer_from ◌==◌ c stack place) (ap (cell_at stack) start ∙ h 0 (omega arith))
    ∙ cond-true (are_parts ◌==◌ v stack place 8) (Some v) None (parts_there v stack place 8 same (omega arith) h)

fits_at : (stack : List (Cell ℕ)) (i : ℕ) → All FitsCell stack → FitsCell (cell_at stack i)
fits_at stack i h = elim (cases_lt i (length stack)) [
  | inl below ↦ All-get_or FitsCell stack i cell.Unset below h
  | inr above ↦ subst FitsCell (sym (get_or_past stack i cell.Unset above)) tt
]

-- a number that is known is below 2^64
number_fits : (calls : List ℕ) (a : Abs) (n : ℕ) → is_unset a ≡ false → IsOf calls a (Some (Number n)) → n < 2 ^ 64
number_fits calls (Num a) n set h = h.1
number_fits calls (May r) n set h = omega (arith, h.0)
number_fits calls Unset n set h = absurd (cc)
number_fits calls (Stk k) n set h = absurd h
number_fits calls (Ctx a b) n set h = absurd h
number_fits calls (Ob r a b) n set h = absurd h

-- the word at a place, loaded
abbrev word_at : List (Cell ℕ) → ℕ → Bool → Result (Value ℕ) Trap
word_at stack place signed = loaded_word (pointer_from ◌==◌ (cell_at stack place) stack place) (number_from stack place 8) 8 signed

spill_loaded : (calls : List ℕ) (a : Abs) (v : Value ℕ) (stack : List (Cell ℕ)) (place : ℕ) (signed : Bool) → All FitsCell stack
    → is_unset a ≡ false → IsOf calls a (Some v) → ((j : ℕ) → j < 8 → cell_at stack (place + j) ≡ cell_of v j)
    → IsFitting calls a (word_at stack place signed)
spill_loaded calls a (Number n) stack place signed fit set of h =
    let fits = number_fits calls a n set of in
    let start : place ≡ place + 0 = omega arith in
    let first : IsByte (cell_at stack place) = subst IsByte (sym (ap (cell_at stack) start ∙ h 0 (omega arith))) tt in
    record {
      v = Number n;
      fits = tt;
      of = of;
      is =
          ap (λ (p : Option (Value ℕ)). loaded_word p (number_from stack place 8) 8 signed) (no_pointer (cell_at stack place) stack place first)
          ∙ ap (λ (o : Option ℕ). loaded_number {N = ℕ} o 8 signed) (number_again stack place n fits h)
          ∙ ap (λ (m : ℕ). Ok (Number m)) (number_same signed n fits);
    }
spill_loaded calls a (Pointer base k) stack place signed fit set of h =
    let start : place ≡ place + 0 = omega arith in
    record {
      v = Pointer base k;
      fits = subst FitsCell (ap (cell_at stack) start ∙ h 0 (omega arith)) (fits_at stack place fit);
      of = of;
      is =
          ap (λ (p : Option (Value ℕ)). loaded_word p (number_from stack place 8) 8 signed)
          (pointer_again (Pointer base k) stack place (pointer_same (Pointer base k) (λ n e. absurd (cc))) h);
    }

word_loaded : (calls : List ℕ) (known : Abs) (word : Word) (fault : Option StackFault) (stack : List (Cell ℕ)) (place : ℕ) (signed : Bool)
    → All FitsCell stack → IsOfCells calls word (λ j. cell_at stack (place + j))
    → (fault ≡ None → (i : ℕ) → place ≤ i → i < place + 8 → IsByte (cell_at stack i))
    → state.loaded_word word fault 8 signed ≡ Ok known → IsFitting calls known (word_at stack place signed)
word_loaded calls known (Spill a) fault stack place signed fit h bytes e =
    let same : a ≡ known = cc in
    subst (λ (b : Abs). IsFitting calls b (word_at stack place signed)) same (spill_loaded calls a h.0 stack place signed fit h.3 h.1 h.2)
word_loaded calls known (Bytes mask) (Some fault) stack place signed fit h bytes e = absurd (cc)
word_loaded calls known (Bytes mask) None stack place signed fit h bytes e =
    let number = number_loaded calls known D signed None (number_from stack place 8) (λ none. bytes_number stack place 8 (bytes refl)) e in
    record {
      v = number.v;
      fits = number.fits;
      of = number.of;
      is = ap (λ (p : Option (Value ℕ)). loaded_word p (number_from stack place 8) 8 signed)
          (no_pointer (cell_at stack place) stack place (bytes refl place (omega arith) (omega arith))) ∙ number.is;
    }

-- ---- the stack

part_loaded : (calls : List ℕ) (words : List Word) (stack : List (Cell ℕ)) (size : Size) (signed : Bool) (place : ℕ) (known : Abs)
    → AreOfCells calls words stack → place + bytes_in size ≤ 512
    → state.loaded_number (read_fault place (bytes_in size) words) (bytes_in size) signed ≡ Ok known
    → IsFitting calls known (loaded_number (number_from stack place (bytes_in size)) (bytes_in size) signed)
part_loaded calls words stack size signed place known h fits e =
    number_loaded calls known size signed (read_fault place (bytes_in size) words) (number_from stack place (bytes_in size))
    (λ none. bytes_number stack place (bytes_in size) (read_bytes calls words stack place (bytes_in size) h (bytes_few size) fits none)) e

-- eight bytes, which are a word or are not
eight_loaded : (calls : List ℕ) (words : List Word) (stack : List (Cell ℕ)) (signed : Bool) (place : ℕ) (known : Abs) (t : Bool)
    → (place % 8 == 0) ≡ t → AreOfCells calls words stack → All FitsCell stack → place + 8 ≤ 512
    → cond t (state.loaded_word (word_of words (place / 8)) (read_fault place 8 words) 8 signed)
    (state.loaded_number (read_fault place 8 words) 8 signed) ≡ Ok known
    → IsFitting calls known (cond t (word_at stack place signed) (loaded_number (number_from stack place 8) 8 signed))
eight_loaded calls words stack signed place known false whole h fit fits e = part_loaded calls words stack D signed place known h fits e
eight_loaded calls words stack signed place known true whole h fit fits e =
    let aligned = eqb-true (place % 8) 0 whole in
    let same : 8 * (place / 8) ≡ place = omega arith in
    word_loaded calls known (word_of words (place / 8)) (read_fault place 8 words) stack place signed fit
    (subst (λ (p : ℕ). IsOfCells calls (word_of words (place / 8)) (λ (j : ℕ). cell_at stack (p + j))) same (h (place / 8) (omega arith)))
    (λ none. read_bytes calls words stack place 8 h (omega arith) fits none) e

placed_loaded : (calls : List ℕ) (words : List Word) (stack : List (Cell ℕ)) (size : Size) (signed : Bool) (place : ℕ) (known : Abs)
    → AreOfCells calls words stack → All FitsCell stack → place + bytes_in size ≤ 512
    → state.loaded_at (Some place) (bytes_in size) signed words ≡ Ok known
    → IsFitting calls known (loaded_at ◌==◌ (Some place) (bytes_in size) signed stack)
placed_loaded calls words stack B signed place known h fit fits e = part_loaded calls words stack B signed place known h fits e
placed_loaded calls words stack H signed place known h fit fits e = part_loaded calls words stack H signed place known h fits e
placed_loaded calls words stack W signed place known h fit fits e = part_loaded calls words stack W signed place known h fits e
placed_loaded calls words stack D signed place known h fit fits e = eight_loaded calls words stack signed place known (place % 8 == 0) refl h fit fits e

found_loaded : (calls : List ℕ) (words : List Word) (stack : List (Cell ℕ)) (size : Size) (signed : Bool) (o : Option ℕ) (known : Abs)
    → AreOfCells calls words stack → All FitsCell stack → ((place : ℕ) → o ≡ Some place → place + bytes_in size ≤ 512)
    → state.loaded_at o (bytes_in size) signed words ≡ Ok known
    → IsFitting calls known (loaded_at ◌==◌ o (bytes_in size) signed stack)
found_loaded calls words stack size signed None known h fit fits e = absurd (cc)
found_loaded calls words stack size signed (Some place) known h fit fits e = placed_loaded calls words stack size signed place known h fit (fits place refl) e

-- a load from the stack that is not refused
pub stack_load_sound : (calls : List ℕ) (s : StateView) (stack : List (Cell ℕ)) (size : Size) (signed : Bool) (offset : ℤ) (known : Abs)
    → AreOfCells calls s.words stack → All FitsCell stack → loaded s size signed offset ≡ Ok known
    → IsFitting calls known (loaded_at ◌==◌ (place_of offset (bytes_in size)) (bytes_in size) signed stack)
stack_load_sound calls s stack size signed offset known h fit e =
    found_loaded calls s.words stack size signed (place_of offset (bytes_in size)) known h fit (λ place at. placed_inside offset (bytes_in size) place at) e

-- ---- the context, and objects

abbrev is_placed : ℕ → ℤ → ℕ → Bool
is_placed len z bytes = int_le (pos 0) z && int_le (z +ℤ pos bytes) (pos len)

-- between the ends of an address
placed_between : (len bytes : ℕ) (low high at offset : ℤ) → low ≤ℤ at → at ≤ℤ high → is_in_bounds len low high offset bytes ≡ true
    → is_placed len (at +ℤ offset) bytes ≡ true
placed_between len bytes low high at offset below above e =
    let both = and_parts (int_le (pos 0) (low +ℤ offset)) (int_le ((high +ℤ offset) +ℤ pos bytes) (pos len)) e in
    and_from (int_le (pos 0) (at +ℤ offset)) (int_le ((at +ℤ offset) +ℤ pos bytes) (pos len)) (first both.0) (last both.1)
  where
    first : int_le (pos 0) (low +ℤ offset) ≡ true → int_le (pos 0) (at +ℤ offset) ≡ true
    first h = grind (arith, ints)

    last : int_le ((high +ℤ offset) +ℤ pos bytes) (pos len) ≡ true → int_le ((at +ℤ offset) +ℤ pos bytes) (pos len) ≡ true
    last h = grind (arith, ints)

-- where the bytes begin that an access in bounds moves
pub place_between : (len bytes : ℕ) (low high at offset : ℤ) → low ≤ℤ at → at ≤ℤ high
    → is_in_bounds len low high offset bytes ≡ true → place_in len (at +ℤ offset) bytes ≡ Some (nat_abs (at +ℤ offset))
place_between len bytes low high at offset below above e =
    cond-true (is_placed len (at +ℤ offset) bytes) (Some (nat_abs (at +ℤ offset))) None (placed_between len bytes low high at offset below above e)

-- a load in bounds, from bytes that are as many as declared
pub read_sound : (calls : List ℕ) (outside : Trap) (source : List ℕ) (declared : ℕ) (size : Size) (signed : Bool) (low high at offset : ℤ)
    → length source ≡ declared → low ≤ℤ at → at ≤ℤ high → is_in_bounds declared low high offset (bytes_in size) ≡ true
    → IsFitting calls (Num (loaded_range (bytes_in size) signed))
    (read_at outside (place_in (length source) (at +ℤ offset) (bytes_in size)) (bytes_in size) signed source)
read_sound calls outside source declared size signed low high at offset long below above e =
    let inside = subst (λ (len : ℕ). is_in_bounds len low high offset (bytes_in size) ≡ true) (sym long) e in
    let number = little_number (bytes_in size) (drop (nat_abs (at +ℤ offset)) source) in
    record {
      v = Number (extended (bytes_in size) signed number);
      is = ap (λ (o : Option ℕ). read_at {N = ℕ} outside o (bytes_in size) signed source)
          (place_between (length source) (bytes_in size) low high at offset below above inside);
      fits = tt;
      of = extended_within size signed number;
    }
