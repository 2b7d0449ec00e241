-- What is loaded from the stack and stored to it is, with names changed, what is loaded and stored.
use Rattle.std.proofs.Common.{◌≡◌, ℕ, zero, suc, ◌+◌, ◌-◌, ◌/◌, ℤ, Bool, true, false, cond, not, List, [], ◌∷◌, Option, Some, None, Result, Ok, Err}
use Rattle.std.proofs.Common.{refl, sym, ap, arith}
use Rattle.std.specs.Prelude.{map, Contains, ◌&&◌, ◌==◌}
use Rattle.std.specs.List.{enumerate_from}
use Rattle.std.specs.Ordering.{int_eq}
use Rattle.ebpf_state.specs.Stack.{is_whole_word}
use Rattle.ebpf_machine.specs.declared.value.Base.{Base}
use Rattle.ebpf_machine.specs.declared.value.Base.TheVariants.{Stack, Context, Object}
use Rattle.ebpf_machine.specs.declared.value.Value.{Value}
use Rattle.ebpf_machine.specs.declared.value.Value.TheVariants.{Number, Pointer}
use Rattle.ebpf_machine.specs.declared.value.Cell.{Cell}
use Rattle.ebpf_machine.specs.declared.value.Cell.TheVariants.{Unset, Byte, Part}
use Rattle.ebpf_machine.specs.Values.{Trap, PointerMisuse, Frame}
use Rattle.ebpf_machine.specs.Cells.{cell_at, is_same_base, is_same_pointer, is_part, are_parts, pointer_from, with_byte, number_from}
use Rattle.ebpf_machine.specs.Cells.{loaded_number, loaded_word, loaded_at, read_at, cell_of, left_over, touches, is_among, stored_cell}
use Rattle.ebpf_machine.specs.Cells.{stored_cells, is_pointer, stored_at}
use Rattle.ebpf_machine.specs.Renaming.{base_renamed, value_renamed, cell_renamed}
use Rattle.ebpf_machine.specs.Sound.{Names, NamesPart, HasPointer, InCell}
use Rattle.ebpf_machine.proofs.World.Telling.{Telling, trap_told}

abbrev pub result_told : {N M : Type 0} → (how : Telling N M) → Result (Value N) Trap → Result (Value M) Trap
result_told how (Ok v) = Ok (value_renamed how.name v)
result_told how (Err trap) = Err (trap_told how trap)

abbrev pub stack_told : {N M : Type 0} → (how : Telling N M) → Result (List (Cell N)) Trap → Result (List (Cell M)) Trap
stack_told how (Ok stack) = Ok (map (cell_renamed how.name) stack)
stack_told how (Err trap) = Err (trap_told how trap)

cell_at-told : {N M : Type 0} → (how : Telling N M) → (xs : List (Cell N)) (k : ℕ)
    → cell_at (map (cell_renamed how.name) xs) k ≡ cell_renamed how.name (cell_at xs k)
cell_at-told how [] k = refl
cell_at-told how (x ∷ xs) zero = refl
cell_at-told how (x ∷ xs) (suc k) = cell_at-told how xs k

-- ---- which pointers the cells have

-- a cell at some place is part of a pointer to the object of a name
abbrev pub HasPart : {N : Type 0} → List (Cell N) → N → Type 0
HasPart stack n = (k : ℕ) × NamesPart (cell_at stack k) n

part_among : {N : Type 0} → (xs : List (Cell N)) (k : ℕ) (n : N) → NamesPart (cell_at xs k) n → Contains xs (cell_at xs k)
part_among [] k n h = absurd h
part_among (x ∷ xs) zero n h = (0, omega arith, refl)
part_among (x ∷ xs) (suc k) n h = let there = part_among xs k n h in let inside = there.1 in (suc there.0, omega arith, there.2)

pub cell_points : {N : Type 0} → (frame : Frame N) (n : N) → HasPart frame.stack n → HasPointer frame n
cell_points frame n h = InCell (cell_at frame.stack h.0) (part_among frame.stack h.0 n h.1) h.1

-- ---- loads

-- names that two lists of cells have parts of are one on one side where they are on the other
abbrev AreAlike : {N M : Type 0} → (N → M) → (N → N → Bool) → (M → M → Bool) → List (Cell N) → Type 0
AreAlike {N} name one seen stack = (n m : N) → HasPart stack n → HasPart stack m → seen (name n) (name m) ≡ one n m

base-told : {N M : Type 0} → (how : Telling N M) → (one : N → N → Bool) (seen : M → M → Bool) (a b : Base N)
    → ((n m : N) → a ≡ Object n → b ≡ Object m → seen (how.name n) (how.name m) ≡ one n m)
    → is_same_base seen (base_renamed how.name a) (base_renamed how.name b) ≡ is_same_base one a b
base-told how one seen Stack Stack alike = refl
base-told how one seen Stack Context alike = refl
base-told how one seen Stack (Object m) alike = refl
base-told how one seen Context Stack alike = refl
base-told how one seen Context Context alike = refl
base-told how one seen Context (Object m) alike = refl
base-told how one seen (Object n) Stack alike = refl
base-told how one seen (Object n) Context alike = refl
base-told how one seen (Object n) (Object m) alike = alike n m refl refl

pointer-told : {N M : Type 0} → (how : Telling N M) → (one : N → N → Bool) (seen : M → M → Bool) (v u : Value N)
    → ((n m : N) → Names (Some v) n → Names (Some u) m → seen (how.name n) (how.name m) ≡ one n m)
    → is_same_pointer seen (value_renamed how.name v) (value_renamed how.name u) ≡ is_same_pointer one v u
pointer-told how one seen (Number x) u alike = refl
pointer-told how one seen (Pointer a k) (Number x) alike = refl
pointer-told {N} {M} how one seen (Pointer a k) (Pointer b j) alike =
    ap (λ (t : Bool). t && int_eq k j) (base-told how one seen a b (λ n m e f. named n m e f)) where
      named : (n m : N) → a ≡ Object n → b ≡ Object m → seen (how.name n) (how.name m) ≡ one n m
      named n m e f = alike n m (of_object a k n e) (of_object b j m f) where
        of_object : (base : Base N) (k : ℤ) (n : N) → base ≡ Object n → Names (Some (Pointer base k)) n
        of_object base k n e = rw e refl

part-told : {N M : Type 0} → (how : Telling N M) → (one : N → N → Bool) (seen : M → M → Bool) (v : Value N) (j : ℕ) (c : Cell N)
    → ((n m : N) → Names (Some v) n → NamesPart c m → seen (how.name n) (how.name m) ≡ one n m)
    → is_part seen (value_renamed how.name v) j (cell_renamed how.name c) ≡ is_part one v j c
part-told how one seen v j Unset alike = refl
part-told how one seen v j (Byte b) alike = refl
part-told how one seen v j (Part u i) alike = ap (λ (t : Bool). t && i == j) (pointer-told how one seen v u alike)

parts-told : {N M : Type 0} → (how : Telling N M)
    → (one : N → N → Bool) (seen : M → M → Bool) (v : Value N) (stack : List (Cell N)) (place n : ℕ)
    → AreAlike how.name one seen stack → ((m : N) → Names (Some v) m → HasPart stack m)
    → are_parts seen (value_renamed how.name v) (map (cell_renamed how.name) stack) place n ≡ are_parts one v stack place n
unfolding are_parts
parts-told how one seen v stack place zero alike among = refl
parts-told how one seen v stack place (suc n) alike among =
    let rest = parts-told how one seen v stack place n alike among in
    let here = part-told how one seen v n (cell_at stack (place + n)) (λ m u named part. alike m u (among m named) (place + n, part)) in
    rw (rest, cell_at-told how stack (place + n), here) refl

abbrev value_found : {N M : Type 0} → (how : Telling N M) → Option (Value N) → Option (Value M)
value_found how None = None
value_found how (Some v) = Some (value_renamed how.name v)

found_by : {N M : Type 0} → (how : Telling N M) → (t : Bool) (v : Value N)
    → cond t (Some (value_renamed how.name v)) None ≡ value_found how (cond t (Some v) None)
found_by how true v = refl
found_by how false v = refl

from-told : {N M : Type 0} → (how : Telling N M)
    → (one : N → N → Bool) (seen : M → M → Bool) (c : Cell N) (stack : List (Cell N)) (place : ℕ) → AreAlike how.name one seen stack
    → ((m : N) → NamesPart c m → HasPart stack m)
    → pointer_from seen (cell_renamed how.name c) (map (cell_renamed how.name) stack) place ≡ value_found how (pointer_from one c stack place)
from-told how one seen Unset stack place alike among = refl
from-told how one seen (Byte b) stack place alike among = refl
from-told how one seen (Part v j) stack place alike among =
    rw (parts-told how one seen v stack place 8 alike among) (found_by how (are_parts one v stack place 8) v)

byte-told : {N M : Type 0} → (how : Telling N M) → (c : Cell N) (n : Option ℕ) → with_byte (cell_renamed how.name c) n ≡ with_byte c n
byte-told how Unset n = refl
byte-told how (Part v j) n = refl
byte-told how (Byte b) None = refl
byte-told how (Byte b) (Some n) = refl

number-told : {N M : Type 0} → (how : Telling N M) → (stack : List (Cell N)) (place n : ℕ)
    → number_from (map (cell_renamed how.name) stack) place n ≡ number_from stack place n
unfolding number_from
number-told how stack place zero = refl
number-told how stack place (suc n) =
    rw (cell_at-told how stack place, number-told how stack (suc place) n) (byte-told how (cell_at stack place) (number_from stack (suc place) n))

loaded_number-told : {N M : Type 0} → (how : Telling N M) → (n : Option ℕ) (bytes : ℕ) (signed : Bool)
    → loaded_number n bytes signed ≡ result_told how (loaded_number n bytes signed)
loaded_number-told how None bytes signed = refl
loaded_number-told how (Some n) bytes signed = refl

loaded_word-told : {N M : Type 0} → (how : Telling N M) → (v : Option (Value N)) (n : Option ℕ) (bytes : ℕ) (signed : Bool)
    → loaded_word (value_found how v) n bytes signed ≡ result_told how (loaded_word v n bytes signed)
loaded_word-told how None n bytes signed = loaded_number-told how n bytes signed
loaded_word-told how (Some v) n bytes signed = refl

chosen-told : {N M : Type 0} → (how : Telling N M) → (t : Bool) (a b : Result (Value N) Trap)
    → cond t (result_told how a) (result_told how b) ≡ result_told how (cond t a b)
chosen-told how true a b = refl
chosen-told how false a b = refl

pub loaded_at-told : {N M : Type 0} → (how : Telling N M)
    → (one : N → N → Bool) (seen : M → M → Bool) (place : Option ℕ) (bytes : ℕ) (signed : Bool) (stack : List (Cell N))
    → AreAlike how.name one seen stack
    → loaded_at seen place bytes signed (map (cell_renamed how.name) stack) ≡ result_told how (loaded_at one place bytes signed stack)
loaded_at-told how one seen None bytes signed stack alike = refl
loaded_at-told how one seen (Some place) bytes signed stack alike =
    let pointer = from-told how one seen (cell_at stack place) stack place alike (λ m part. (place, part)) in
    let n = number_from stack place bytes in
    rw (
      cell_at-told how stack place,
      pointer,
      number-told how stack place bytes,
      loaded_word-told how
          (pointer_from one (cell_at stack place) stack place) n bytes signed,
      loaded_number-told how n bytes signed,
    )
    (chosen-told how (is_whole_word place bytes) (loaded_word (pointer_from one (cell_at stack place) stack place) n bytes signed)
    (loaded_number n bytes signed))

pub read_at-told : {N M : Type 0} → (how : Telling N M)
    → (outside : Trap) (place : Option ℕ) (bytes : ℕ) (signed : Bool) (source : List ℕ) → trap_told how outside ≡ outside
    → read_at outside place bytes signed source ≡ result_told how (read_at outside place bytes signed source)
read_at-told how outside None bytes signed source same = ap Err (sym same)
read_at-told how outside (Some place) bytes signed source same = refl

-- ---- stores

cell_of-told : {N M : Type 0} → (how : Telling N M) → (v : Value N) (j : ℕ) → cell_of (value_renamed how.name v) j ≡ cell_renamed how.name (cell_of v j)
cell_of-told how (Number n) j = refl
cell_of-told how (Pointer base k) j = refl

left_over-told : {N M : Type 0} → (how : Telling N M) → (c : Cell N) → left_over (cell_renamed how.name c) ≡ cell_renamed how.name (left_over c)
left_over-told how Unset = refl
left_over-told how (Byte b) = refl
left_over-told how (Part v j) = refl

one_of-told : {N M : Type 0} → (how : Telling N M) → (t : Bool) (a b : Cell N)
    → cond t (cell_renamed how.name a) (cell_renamed how.name b) ≡ cell_renamed how.name (cond t a b)
one_of-told how true a b = refl
one_of-told how false a b = refl

stored_cell-told : {N M : Type 0} → (how : Telling N M) → (place bytes : ℕ) (v : Value N) (i : ℕ) (c : Cell N)
    → stored_cell place bytes (value_renamed how.name v) i (cell_renamed how.name c) ≡ cell_renamed how.name (stored_cell place bytes v i c)
stored_cell-told how place bytes v i c =
    rw (cell_of-told how v (i - place), left_over-told how c, one_of-told how (touches place bytes (i / 8)) (left_over c) c)
    (one_of-told how (is_among place bytes i) (cell_of v (i - place)) (cond (touches place bytes (i / 8)) (left_over c) c))

stored_from-told : {N M : Type 0} → (how : Telling N M) → (place bytes : ℕ) (v : Value N) (from : ℕ) (stack : List (Cell N))
    → map (λ p. stored_cell place bytes (value_renamed how.name v) p.0 p.1) (enumerate_from from (map (cell_renamed how.name) stack))
    ≡ map (cell_renamed how.name) (map (λ p. stored_cell place bytes v p.0 p.1) (enumerate_from from stack))
stored_from-told how place bytes v from [] = refl
stored_from-told how place bytes v from (c ∷ stack) = rw (stored_cell-told how place bytes v from c, stored_from-told how place bytes v (from + 1) stack) refl

is_pointer-told : {N M : Type 0} → (how : Telling N M) → (v : Value N) → is_pointer (value_renamed how.name v) ≡ is_pointer v
is_pointer-told how (Number n) = refl
is_pointer-told how (Pointer base k) = refl

either-told : {N M : Type 0} → (how : Telling N M) → (t : Bool) (stack : List (Cell N))
    → cond t (Err PointerMisuse) (Ok (map (cell_renamed how.name) stack)) ≡ stack_told how (cond t (Err PointerMisuse) (Ok stack))
either-told how true stack = refl
either-told how false stack = refl

pub stored_at-told : {N M : Type 0} → (how : Telling N M) → (place : Option ℕ) (bytes : ℕ) (v : Value N) (stack : List (Cell N))
    → stored_at place bytes (value_renamed how.name v) (map (cell_renamed how.name) stack) ≡ stack_told how (stored_at place bytes v stack)
stored_at-told how None bytes v stack = refl
stored_at-told how (Some place) bytes v stack =
    rw (is_pointer-told how v, stored_from-told how place bytes v 0 stack)
    (either-told how (is_pointer v && not (is_whole_word place bytes)) (stored_cells place bytes v stack))
