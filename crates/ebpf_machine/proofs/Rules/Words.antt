-- What is known of the words of a stack speaks of its cells, through joins and null tests.
use Rattle.std.proofs.Common.{◌≡◌, ℕ, zero, suc, ◌+◌, ◌-◌, ◌*◌, ◌/◌, ◌^◌, ◌<◌, ◌≤◌, min, ℤ, pos, negsuc, ◌+ℤ◌, Bool, true, false, cond, List, []}
use Rattle.std.proofs.Common.{Option, Some, None, refl, sym, ap, ◌∙◌, subst, arith}
use Rattle.std.specs.Prelude.{◌==◌, ◌&&◌, int_le, nat_abs}
use Rattle.std.proofs.Math.Nat.{pow-suc}
use Rattle.std.proofs.lemmas.Nat.{pow_pos}
use Rattle.std.proofs.lemmas.Int.{ints}
use Rattle.ebpf_insn.specs.declared.insn.Size.{Size}
use Rattle.ebpf_insn.specs.declared.insn.Size.TheVariants.{B, H, W, D}
use Rattle.std.specs.Int.{bit_at}
use Rattle.std.proofs.lemmas.Bool.{cond_both, and_parts}
use Rattle.std.proofs.lemmas.List.{get_or-replicate}
use Rattle.std.proofs.lemmas.Nat.Bits.{bit_at_and, bit_at-lt, bit_at-zero, bit_at_lowest, bit_at-suc}
use Rattle.ebpf_range.specs.declared.range.Range.{Range}
use Rattle.ebpf_state.specs.declared.value.Abs.{Abs}
use Rattle.ebpf_state.specs.declared.value.Abs.TheVariants.{Unset, Num, Stk, Ctx, Ob, May}
use Rattle.ebpf_state.specs.declared.word.Word.{Word}
use Rattle.ebpf_state.specs.declared.word.Word.TheVariants.{Spill, Bytes}
use Rattle.ebpf_state.specs.Abstract.{is_unset, joined_value}
use Rattle.ebpf_state.specs.Words.{joined_word, spill_or_nothing}
use Rattle.ebpf_state.specs.References.{answer_known, settled_value, settled_word}
use Rattle.ebpf_state.specs.States.{first_state}
use Rattle.ebpf_state.specs.Stack.{may_point, bytes_in, place_of, covered, word_of}
use Rattle.ebpf_machine.specs.declared.value.Value.{Value}
use Rattle.ebpf_machine.specs.declared.value.Value.TheVariants.{Number, Pointer}
use Rattle.ebpf_machine.specs.declared.value.Cell.{Cell}
use Rattle.ebpf_machine.specs.Values.{empty_stack}
use Rattle.ebpf_machine.specs.Cells.{cell_at, cell_of}
use Rattle.ebpf_machine.specs.Concretization.{IsOf, IsByte, IsOfCells}
use Rattle.ebpf_machine.proofs.Rules.ValueJoins.{IsOf-joined_left, IsOf-joined_right}

-- the words of a stack are known so
abbrev pub AreOfCells : List ℕ → List Word → List (Cell ℕ) → Type 0
AreOfCells calls words stack = (w : ℕ) → w < 64 → IsOfCells calls (word_of words w) (λ j. cell_at stack (8 * w + j))

-- the cells of a word
abbrev pub word_cells : List (Cell ℕ) → ℕ → ℕ → Cell ℕ
word_cells stack w j = cell_at stack (8 * w + j)

-- what is known of a word speaks of the same cells under another name
pub same_cells : (calls : List ℕ) (word : Word) (old new : ℕ → Cell ℕ) → ((j : ℕ) → j < 8 → old j ≡ new j) → IsOfCells calls word old
    → IsOfCells calls word new
same_cells calls (Spill a) old new same h = (h.0, h.1, λ j lt. sym (same j lt) ∙ h.2 j lt, h.3)
same_cells calls (Bytes mask) old new same h = λ j lt e. subst IsByte (same j lt) (h j lt e)

-- no byte is known of a word of which nothing is known
pub nothing_known : (calls : List ℕ) (cells : ℕ → Cell ℕ) → IsOfCells calls (Bytes 0) cells
nothing_known calls cells j lt e = absurd (omega (arith, bit_at-zero j))

-- a cell of a number is a byte
pub number_byte : (calls : List ℕ) (a : Range) (v : Value ℕ) (j : ℕ) → IsOf calls (Num a) (Some v) → IsByte (cell_of v j)
number_byte calls a (Number n) j h = tt
number_byte calls a (Pointer base k) j h = absurd h

-- a value that is neither a pointer nor may be one is a number
pub plain_byte : (calls : List ℕ) (a : Abs) (v : Value ℕ) (j : ℕ) → is_unset a ≡ false → may_point a ≡ false → IsOf calls a (Some v) → IsByte (cell_of v j)
plain_byte calls (Num a) v j set plain h = number_byte calls a v j h
plain_byte calls Unset v j set plain h = absurd (cc)
plain_byte calls (Stk k) v j set plain h = absurd (cc)
plain_byte calls (Ctx a b) v j set plain h = absurd (cc)
plain_byte calls (Ob r a b) v j set plain h = absurd (cc)
plain_byte calls (May r) v j set plain h = absurd (cc)

-- ---- joins

-- what is left of two spills speaks of cells that what is known of both does
pub left_spilled : (calls : List ℕ) (a : Abs) (v : Value ℕ) (cells : ℕ → Cell ℕ) → IsOf calls a (Some v)
    → ((j : ℕ) → j < 8 → cells j ≡ cell_of v j) → IsOfCells calls (spill_or_nothing a) cells
left_spilled calls Unset v cells of same = nothing_known calls cells
left_spilled calls (Num a) v cells of same = (v, of, same, refl)
left_spilled calls (Stk k) v cells of same = (v, of, same, refl)
left_spilled calls (Ctx a b) v cells of same = (v, of, same, refl)
left_spilled calls (Ob r a b) v cells of same = (v, of, same, refl)
left_spilled calls (May r) v cells of same = (v, of, same, refl)

-- the cells of a spilled number are bytes
spilled_bytes : (calls : List ℕ) (a : Range) (mask : ℕ) (cells : ℕ → Cell ℕ) → IsOfCells calls (Spill (Num a)) cells → IsOfCells calls (Bytes mask) cells
spilled_bytes calls a mask cells h = λ j lt e. subst IsByte (sym (h.2 j lt)) (number_byte calls a h.0 j h.1)

-- a join of words speaks of the cells that either side speaks of
pub joined_cells_left : (calls : List ℕ) (a b : Word) (cells : ℕ → Cell ℕ) → IsOfCells calls a cells → IsOfCells calls (joined_word a b) cells
joined_cells_left calls (Bytes a) (Bytes b) cells h = λ j lt e. h j lt (omega (arith, bit_at_and a b j, bit_at-lt a j))
joined_cells_left calls (Spill (Num a)) (Bytes b) cells h = spilled_bytes calls a b cells h
joined_cells_left calls (Bytes a) (Spill (Num b)) cells h = h
joined_cells_left calls (Spill a) (Spill b) cells h = left_spilled calls (joined_value a b) h.0 cells (IsOf-joined_left calls a b (Some h.0) h.1) h.2
joined_cells_left calls _ _ cells h = nothing_known calls cells

pub joined_cells_right : (calls : List ℕ) (a b : Word) (cells : ℕ → Cell ℕ) → IsOfCells calls b cells → IsOfCells calls (joined_word a b) cells
joined_cells_right calls (Bytes a) (Bytes b) cells h = λ j lt e. h j lt (omega (arith, bit_at_and a b j, bit_at-lt b j))
joined_cells_right calls (Spill (Num a)) (Bytes b) cells h = h
joined_cells_right calls (Bytes a) (Spill (Num b)) cells h = spilled_bytes calls b a cells h
joined_cells_right calls (Spill a) (Spill b) cells h = left_spilled calls (joined_value a b) h.0 cells (IsOf-joined_right calls a b (Some h.0) h.1) h.2
joined_cells_right calls _ _ cells h = nothing_known calls cells

-- ---- null tests

answer_set : (call : ℕ) (null : Bool) → is_unset (answer_known call null) ≡ false
answer_set call true = refl
answer_set call false = refl

settled_set : (call : ℕ) (null : Bool) (a : Abs) → is_unset a ≡ false → is_unset (settled_value call null a) ≡ false
settled_set call null (May r) set =
    cond_both (r == call) (answer_known call null) (May r) (λ (a : Abs). is_unset a ≡ false) (λ e. answer_set call null) (λ e. refl)
settled_set call null Unset set = set
settled_set call null (Num a) set = refl
settled_set call null (Stk k) set = refl
settled_set call null (Ctx a b) set = refl
settled_set call null (Ob r a b) set = refl

-- A word, once it is known whether an answer is null: what holds of each value is an argument, since the file that has it rests on
-- this one.
pub settled_cells : (calls : List ℕ) (call : ℕ) (null : Bool) (word : Word) (cells : ℕ → Cell ℕ)
    → ((a : Abs) (v : Option (Value ℕ)) → IsOf calls a v → IsOf calls (settled_value call null a) v) → IsOfCells calls word cells
    → IsOfCells calls (settled_word call null word) cells
settled_cells calls call null (Spill a) cells values h = (h.0, values a (Some h.0) h.1, h.2, settled_set call null a h.3)
settled_cells calls call null (Bytes mask) cells values h = h

-- ---- the first state

pub first_cells : AreOfCells [] first_state.words empty_stack
first_cells w lt =
    subst (λ (word : Word). IsOfCells [] word (word_cells empty_stack w)) (sym (get_or-replicate 64 w (Bytes 0) (Bytes 0) lt))
    (nothing_known [] (word_cells empty_stack w))

-- ---- the bytes of a load or a store

-- there are one to eight of them
pub bytes_some : (size : Size) → 0 < bytes_in size
bytes_some B = omega arith
bytes_some H = omega arith
bytes_some W = omega arith
bytes_some D = omega arith

pub bytes_few : (size : Size) → bytes_in size ≤ 8
bytes_few B = omega arith
bytes_few H = omega arith
bytes_few W = omega arith
bytes_few D = omega arith

some_where : {A : Type 0} (t : Bool) (a b : A) → cond t (Some a) None ≡ Some b → (t ≡ true) × (a ≡ b)
some_where true a b e = (refl, cc)
some_where false a b e = absurd (cc)

-- they lie among the 512 of the stack
pub placed_inside : (offset : ℤ) (bytes place : ℕ) → place_of offset bytes ≡ Some place → place + bytes ≤ 512
placed_inside offset bytes place e =
    let found = some_where (int_le (negsuc 511) offset && int_le (offset +ℤ pos bytes) (pos 0)) (nat_abs (offset +ℤ pos 512)) place e in
    let both = and_parts (int_le (negsuc 511) offset) (int_le (offset +ℤ pos bytes) (pos 0)) found.0 in
    inside offset both.0 both.1 found.1
  where
    inside : (z : ℤ) → int_le (negsuc 511) z ≡ true → int_le (z +ℤ pos bytes) (pos 0) ≡ true → nat_abs (z +ℤ pos 512) ≡ place → place + bytes ≤ 512
    inside z low high same = grind (arith, ints)

-- ---- runs of bits

-- the bits from l up to h
run_inside : (l h j : ℕ) → l ≤ j → j < h → bit_at (2 ^ h - 2 ^ l) j ≡ 1
run_inside l zero j p q = absurd (omega (arith, q))
run_inside zero (suc h) zero p q = omega (arith, bit_at_lowest (2 ^ suc h - 1), pow-suc 2 h, pow_pos h)
run_inside (suc l) (suc h) zero p q = absurd (omega (arith, p))
run_inside zero (suc h) (suc j) p q =
    let half : (2 ^ suc h - 1) / 2 ≡ 2 ^ h - 1 = omega (arith, pow-suc 2 h, pow_pos h) in
    bit_at-suc (2 ^ suc h - 1) j ∙ ap (λ (x : ℕ). bit_at x j) half ∙ run_inside zero h j (omega arith) (omega (arith, q))
run_inside (suc l) (suc h) (suc j) p q =
    let half : (2 ^ suc h - 2 ^ suc l) / 2 ≡ 2 ^ h - 2 ^ l = omega (arith, pow-suc 2 h, pow-suc 2 l) in
    bit_at-suc (2 ^ suc h - 2 ^ suc l) j ∙ ap (λ (x : ℕ). bit_at x j) half ∙ run_inside l h j (omega (arith, p)) (omega (arith, q))

run_only : (l h j : ℕ) → bit_at (2 ^ h - 2 ^ l) j ≡ 1 → (l ≤ j) × (j < h)
run_only l zero j e =
    let none : 1 - 2 ^ l ≡ 0 = omega (arith, pow_pos l) in
    absurd (omega (arith, ap (λ (x : ℕ). bit_at x j) none, bit_at-zero j, e))
run_only zero (suc h) zero e = (omega arith, omega arith)
run_only (suc l) (suc h) zero e = absurd (omega (arith, bit_at_lowest (2 ^ suc h - 2 ^ suc l), pow-suc 2 h, pow-suc 2 l, e))
run_only zero (suc h) (suc j) e =
    let half : (2 ^ suc h - 1) / 2 ≡ 2 ^ h - 1 = omega (arith, pow-suc 2 h, pow_pos h) in
    let rest = run_only zero h j (ap (λ (x : ℕ). bit_at x j) (sym half) ∙ sym (bit_at-suc (2 ^ suc h - 1) j) ∙ e) in
    (omega arith, omega (arith, rest.1))
run_only (suc l) (suc h) (suc j) e =
    let half : (2 ^ suc h - 2 ^ suc l) / 2 ≡ 2 ^ h - 2 ^ l = omega (arith, pow-suc 2 h, pow-suc 2 l) in
    let rest = run_only l h j (ap (λ (x : ℕ). bit_at x j) (sym half) ∙ sym (bit_at-suc (2 ^ suc h - 2 ^ suc l) j) ∙ e) in
    (omega (arith, rest.0), omega (arith, rest.1))

-- a bit of a word is for one of the bytes where that lies among them
pub covered_inside : (place bytes w j : ℕ) → j < 8 → place ≤ 8 * w + j → 8 * w + j < place + bytes → bit_at (covered place bytes w) j ≡ 1
covered_inside place bytes w j lt low high = run_inside (min 8 (place - 8 * w)) (min 8 (place + bytes - 8 * w)) j (omega arith) (omega arith)

pub covered_only : (place bytes w j : ℕ) → j < 8 → bit_at (covered place bytes w) j ≡ 1 → (place ≤ 8 * w + j) × (8 * w + j < place + bytes)
covered_only place bytes w j lt e =
    let both = run_only (min 8 (place - 8 * w)) (min 8 (place + bytes - 8 * w)) j e in
    let low : min 8 (place - 8 * w) ≤ j = both.0 in
    let high : j < min 8 (place + bytes - 8 * w) = both.1 in
    (omega arith, omega arith)
