-- A program is read from its bytes instruction by instruction, and bytes encode one program at most.
use Rattle.std.proofs.Common.{◌≡◌, ◌≢◌, ℕ, ◌+◌, ◌-◌, ◌*◌, ◌/◌, ◌%◌, ◌<◌, ◌≤◌, Bool, true, false, eqb, nat_le, if◌then◌else◌, List, [], ◌∷◌, ◌++◌}
use Rattle.std.proofs.Common.{length, take, drop, Option, Some, None, refl, sym, ap, ◌∙◌, add-one, inl, inr, arith}
use Rattle.std.proofs.Math.Seq.{take-add}
use Rattle.std.proofs.lemmas.Bool.{cases_lt, eq-eqb, ne_eqb}
use Rattle.std.proofs.lemmas.Bool.Decides.{nat_tests}
use Rattle.std.proofs.lemmas.Option.{same_Some}
use Rattle.std.proofs.lemmas.List.{append-nil, append_assoc, take_all, drop-drop, take-append-drop, get_or-drop, length-append, length-drop}
use Rattle.std.proofs.lemmas.List.{length-take, length_push}
use Rattle.std.proofs.lemmas.List.Concat.{flat_map-append, flat_map-cons}
use Rattle.std.specs.List.{flat_map, AllByRecursion}
use Rattle.ebpf_insn.specs.declared.slot.Slot.{Slot}
use Rattle.ebpf_insn.specs.declared.register.Reg.{Reg}
use Rattle.ebpf_insn.specs.declared.insn.Insn.{Insn}
use Rattle.ebpf_insn.specs.declared.insn.Insn.TheVariants as insn
use Rattle.ebpf_insn.specs.declared.opcode.Form.TheVariants.{Wide}
use Rattle.ebpf_insn.specs.declared.fault.DecodeCode.{DecodeCode}
use Rattle.ebpf_insn.specs.declared.fault.DecodeCode.TheVariants.{ProgramTooLong}
use Rattle.ebpf_insn.specs.declared.fault.DecodeFault.{DecodeFault}
use Rattle.ebpf_insn.specs.declared.fault.DecodeFault.TheVariants.{Bad, NoMemory}
use Rattle.ebpf_insn.specs.Slot.{slot_at, bytes_of_slot, listed}
use Rattle.ebpf_insn.specs.Program.{instructions, placed, slots_in}
use Rattle.ebpf_insn.specs.Opcodes.{opcode_of}
use Rattle.ebpf_insn.specs.Faults.{lowest}
use Rattle.ebpf_insn.specs.Encoding.{slots_of, encoding, IsDefined, program_bytes, IsWellFormed, IsProgram}
use Rattle.ebpf_insn.specs.Decoding.{slot_fault, second_at, is_second_half, place_fault, fault_at, decode_fault, is_uneven, IsDecodeFault}
use Rattle.ebpf_insn.proofs.FaultLemmas.{lowest_at, lowest_none}
use Rattle.ebpf_insn.proofs.SlotBytes.{IsBytes, bytes_of_slot-slot_at}
use Rattle.ebpf_insn.proofs.ToSlots.{found_in, is_wide, wide_opcode}
use Rattle.ebpf_insn.proofs.InsnBytes.{by_wide, length-encoding, first_at, read_again, places_after, places_within}

abbrev AllDefined : List Insn → Type 0
AllDefined is = AllByRecursion IsDefined is

-- ---- instructions of lists of slots

pub instructions-append : (p q : List (Option Insn)) → instructions (p ++ q) ≡ instructions p ++ instructions q
instructions-append [] q = refl
instructions-append (None ∷ p) q = instructions-append p q
instructions-append (Some i ∷ p) q = ap (λ (is : List Insn). i ∷ is) (instructions-append p q)

AllDefined-push : (is : List Insn) (i : Insn) → AllDefined is → IsDefined i → AllDefined (is ++ i ∷ [])
AllDefined-push [] i all here = (here, tt)
AllDefined-push (x ∷ is) i all here = (all.0, AllDefined-push is i all.1 here)

-- ---- what was read of the first slots

-- the second half that is still to come
abbrev pub pending : Bool → List (Option Insn)
pending false = []
pending true = None ∷ []

pub record IsReadSoFar (bytes : List ℕ) (slot : ℕ) (p : List (Option Insn)) (half : Bool) : Type 0 where
  pub count : length p ≡ slot
  pub defined : AllDefined (instructions p)
  pub encoded : take (8 * (slot + length (pending half))) bytes ≡ program_bytes p
  pub laid : p ++ pending half ≡ flat_map placed (instructions p)
  pub room : 8 * (slot + length (pending half)) ≤ length bytes
  pub here : is_second_half bytes slot ≡ half
  pub blank : half ≡ true → (slot_at (drop (8 * slot) bytes)).opcode ≡ 0

pub read_none : (bytes : List ℕ) → IsReadSoFar bytes 0 [] false
read_none bytes = record { count = refl; defined = tt; encoded = refl; laid = refl; room = omega arith; here = refl; blank = λ e. absurd cc }

-- a second half
pub read_half : (bytes : List ℕ) (slot : ℕ) (p : List (Option Insn)) → IsReadSoFar bytes slot p true → IsReadSoFar bytes (slot + 1) (p ++ None ∷ []) false
read_half bytes slot p read =
    let parts : instructions (p ++ None ∷ []) ≡ instructions p = instructions-append p (None ∷ []) ∙ append-nil (instructions p) in
    let next : slot + 1 + 0 ≡ slot + 1 = omega arith in
    record {
      count = omega (arith, length_push p None, read.count);
      defined = rw parts read.defined;
      encoded = rw (parts, next) read.encoded;
      laid = append-nil (p ++ None ∷ []) ∙ read.laid ∙ sym (ap (flat_map placed) parts);
      room = let room : 8 * (slot + 1) ≤ length bytes = read.room in omega arith;
      here = rw (add-one, read.blank refl) refl;
      blank = λ e. absurd cc;
    }

abbrev is_two : ℕ → Bool
is_two n = eqb n 2

placed_is : (i : Insn) → Some i ∷ pending (is_two (slots_in i)) ≡ placed i
placed_is = by_wide (λ i. Some i ∷ pending (is_two (slots_in i)) ≡ placed i) (λ dst value. refl) (λ i alone. rw alone.placed refl)

two_is : (i : Insn) → is_two (slots_in i) ≡ is_wide i
two_is = by_wide (λ i. is_two (slots_in i) ≡ is_wide i) (λ dst value. refl) (λ i alone. rw (alone.placed, alone.other) refl)

second_opcode : (i : Insn) (rest : List ℕ) → is_two (slots_in i) ≡ true → (slot_at (drop 8 (encoding i ++ rest))).opcode ≡ 0
second_opcode i rest two = by_wide (λ j. is_two (slots_in j) ≡ true → (slot_at (drop 8 (encoding j ++ rest))).opcode ≡ 0)
    (λ dst value e. refl)
    (λ j alone e. absurd (let no : is_two (slots_in j) ≡ false = rw alone.placed refl in cc)) i two

-- the bytes from a slot on, where an instruction begins there
begins : (bytes : List ℕ) (slot : ℕ) (i : Insn) → encoding i ≡ take (8 * slots_in i) (drop (8 * slot) bytes)
    → drop (8 * slot) bytes ≡ encoding i ++ drop (8 * slots_in i) (drop (8 * slot) bytes)
begins bytes slot i here =
    sym (take-append-drop (8 * slots_in i) (drop (8 * slot) bytes)) ∙ ap (λ (e : List ℕ). e ++ drop (8 * slots_in i) (drop (8 * slot) bytes)) (sym here)

laid_more : (p : List (Option Insn)) (i : Insn) (half : List (Option Insn)) → p ≡ flat_map placed (instructions p)
    → Some i ∷ half ≡ placed i → instructions (p ++ Some i ∷ []) ≡ instructions p ++ i ∷ []
    → (p ++ Some i ∷ []) ++ half ≡ flat_map placed (instructions (p ++ Some i ∷ []))
laid_more p i half laid here parts =
    append_assoc p (Some i ∷ []) half ∙ ap (λ (q : List (Option Insn)). p ++ q) here ∙ ap (λ (q : List (Option Insn)). q ++ placed i) laid
    ∙ ap (λ (q : List (Option Insn)). flat_map placed (instructions p) ++ q) (sym (append-nil (placed i)))
    ∙ sym (flat_map-append placed (instructions p) (i ∷ [])) ∙ sym (ap (flat_map placed) parts)

-- an instruction more
pub read_more : (bytes : List ℕ) (slot : ℕ) (p : List (Option Insn)) (i : Insn) → IsReadSoFar bytes slot p false → IsDefined i
    → encoding i ≡ take (8 * slots_in i) (drop (8 * slot) bytes)
    → IsReadSoFar bytes (slot + 1) (p ++ Some i ∷ []) (is_two (slots_in i))
read_more bytes slot p i read defined here =
    let parts : instructions (p ++ Some i ∷ []) ≡ instructions p ++ i ∷ [] = instructions-append p (Some i ∷ []) in
    let size : length (pending (is_two (slots_in i))) + 1 ≡ slots_in i = add-one _ ∙ ap length (placed_is i) in
    let next : 8 * (slot + 1 + length (pending (is_two (slots_in i)))) ≡ 8 * slot + 8 * slots_in i = omega arith in
    let same : slot + 0 ≡ slot = omega arith in
    let before : take (8 * slot) bytes ≡ program_bytes p = ap (λ (k : ℕ). take (8 * k) bytes) (sym same) ∙ read.encoded in
    let laid : p ≡ flat_map placed (instructions p) = sym (append-nil p) ∙ read.laid in
    let all : length (encoding i) ≡ 8 * slots_in i = length-encoding i in
    let rest = drop (8 * slots_in i) (drop (8 * slot) bytes) in
    record {
      count = omega (arith, length_push p (Some i), read.count);
      defined = rw parts (AllDefined-push (instructions p) i read.defined defined);
      encoded = ap (λ (k : ℕ). take k bytes) next ∙ take-add (8 * slot) (8 * slots_in i) bytes ∙ ap (λ (e : List ℕ). take (8 * slot) bytes ++ e) (sym here) ∙ ap (λ (e : List ℕ). e ++ encoding i) before
          ∙ ap (λ (e : List ℕ). program_bytes p ++ e) (sym (append-nil (encoding i))) ∙ sym (flat_map-append encoding (instructions p) (i ∷ [])) ∙ sym (ap (flat_map encoding) parts);
      laid = laid_more p i (pending (is_two (slots_in i))) laid (placed_is i) parts;
      room = let room : 8 * (slot + 0) ≤ length bytes = read.room in
          let taken : length (take (8 * slots_in i) (drop (8 * slot) bytes)) ≡ 8 * slots_in i = ap length (sym here) ∙ all in
          omega (arith, length-take (8 * slots_in i) (drop (8 * slot) bytes), length-drop (8 * slot) bytes, next);
      here = rw add-one (ap (λ (b : List ℕ). eqb (slot_at b).opcode (opcode_of Wide)) (begins bytes slot i here) ∙ ap (λ (s : Slot). eqb s.opcode (opcode_of Wide)) (first_at i rest defined) ∙ wide_opcode i defined ∙ sym (two_is i));
      blank = λ two. let after : 8 * (slot + 1) ≡ 8 * slot + 8 = omega arith in
          rw (after, ← drop-drop 8 (8 * slot) bytes, begins bytes slot i here) (second_opcode i rest two);
    }

-- ---- the fault at a place

two_slots : (bytes : List ℕ) (dst : Reg) (value : ℕ) (b : Bool) → nat_le 16 (length bytes) ≡ b → IsBytes bytes → 8 ≤ length bytes
    → slots_of (insn.Wide dst value) ≡ take 2 (slot_at bytes ∷ listed (if b then Some (slot_at (drop 8 bytes)) else None))
    → encoding (insn.Wide dst value) ≡ take 16 bytes
two_slots bytes dst value true here fits long e =
    let room : 16 ≤ length bytes = grind (arith, nat_tests) in
    let next-fits : IsBytes (drop 8 bytes) = λ k. rw get_or-drop (fits (8 + k)) in
    let next : bytes_of_slot (slot_at (drop 8 bytes)) ≡ take 8 (drop 8 bytes) =
    bytes_of_slot-slot_at (drop 8 bytes) next-fits (omega (arith, length-drop 8 bytes)) in
    ap (flat_map bytes_of_slot) e ∙ ap (λ (b : List ℕ). bytes_of_slot (slot_at bytes) ++ b) (append-nil (bytes_of_slot (slot_at (drop 8 bytes))) ∙ next) ∙ ap (λ (b : List ℕ). b ++ take 8 (drop 8 bytes)) (bytes_of_slot-slot_at bytes fits long) ∙ sym (take-add 8 8 bytes)
two_slots bytes dst value false here fits long e = absurd (let count : 2 ≡ 1 = ap length e in omega arith)

-- the bytes of the slots that were read
bytes_of_slots : (bytes : List ℕ) (i : Insn) → IsBytes bytes → 8 ≤ length bytes
    → slots_of i ≡ take (slots_in i) (slot_at bytes ∷ listed (second_at bytes)) → encoding i ≡ take (8 * slots_in i) bytes
bytes_of_slots bytes i fits long =
    by_wide (λ j. slots_of j ≡ take (slots_in j) (slot_at bytes ∷ listed (second_at bytes)) → encoding j ≡ take (8 * slots_in j) bytes)
    (λ dst value e. two_slots bytes dst value (nat_le 16 (length bytes)) refl fits long e)
    (λ j alone e.
    let one : slots_in j ≡ 1 = ap length alone.placed in
    ap (flat_map bytes_of_slot) (e ∙ ap (λ (n : ℕ). take n (slot_at bytes ∷ listed (second_at bytes))) one) ∙ append-nil (bytes_of_slot (slot_at bytes)) ∙ bytes_of_slot-slot_at bytes fits long ∙ ap (λ (n : ℕ). take (8 * n) bytes) (sym one)) i

-- the bytes at a place, in front of a slot without a fault
pub encoding_at : (bytes : List ℕ) (slot : ℕ) (i : Insn) (s : Slot) (second : Option Slot) → IsBytes bytes → 8 * slot + 8 ≤ length bytes
    → s ≡ slot_at (drop (8 * slot) bytes) → second ≡ second_at (drop (8 * slot) bytes) → slots_of i ≡ take (slots_in i) (s ∷ listed second)
    → encoding i ≡ take (8 * slots_in i) (drop (8 * slot) bytes)
encoding_at bytes slot i s second fits room read next slots =
    let rest-fits : IsBytes (drop (8 * slot) bytes) = λ k. rw get_or-drop (fits (8 * slot + k)) in
    let long : 8 ≤ length (drop (8 * slot) bytes) = omega (arith, length-drop (8 * slot) bytes) in
    bytes_of_slots (drop (8 * slot) bytes) i rest-fits long (slots ∙ ap (λ (a : Slot). take (slots_in i) (a ∷ listed second)) read ∙ ap (λ (o : Option Slot). take (slots_in i) (slot_at (drop (8 * slot) bytes) ∷ listed o)) next)

pub fault_at_is : (bytes : List ℕ) (slot : ℕ) (o : Option DecodeCode) → (slot ≡ 4096 → ⊥) → place_fault bytes slot ≡ o → fault_at bytes slot ≡ o
fault_at_is bytes slot o inside fault = rw (ne_eqb slot 4096 inside) fault

-- the fault of an instruction's place is that of its slots
pub place_fault_is : (bytes : List ℕ) (slot : ℕ) (s : Slot) (second : Option Slot) (o : Option DecodeCode)
    → is_second_half bytes slot ≡ false → s ≡ slot_at (drop (8 * slot) bytes) → second ≡ second_at (drop (8 * slot) bytes)
    → slot_fault s second ≡ o → place_fault bytes slot ≡ o
place_fault_is bytes slot s second o first read next fault =
    rw first (ap (λ (a : Slot). slot_fault a (second_at (drop (8 * slot) bytes))) (sym read) ∙ ap (slot_fault s) (sym next) ∙ fault)

-- the place after the last
pub limit_fault : (bytes : List ℕ) (slot : ℕ) → slot ≡ 4096 → fault_at bytes slot ≡ Some ProgramTooLong
limit_fault bytes slot e = rw e refl

-- a second half has no fault of its own
pub half_fault : (bytes : List ℕ) (slot : ℕ) → is_second_half bytes slot ≡ true → place_fault bytes slot ≡ None
half_fault bytes slot half = rw half refl

-- ---- what was read is a program

pub is_even : (n : ℕ) → n ≢ 0 → n % 8 ≡ 0 → is_uneven n ≡ false
is_even n some whole = rw (ne_eqb n 0 some, eq-eqb (n % 8) 0 whole) refl

pub fault_from_lowest : (bytes : List ℕ) (o : Option (ℕ × DecodeCode)) → is_uneven (length bytes) ≡ false
    → lowest (fault_at bytes) (length bytes / 8) ≡ o → decode_fault bytes ≡ o
fault_from_lowest bytes o even found = rw even found

pub refused_at : (bytes : List ℕ) (slot : ℕ) (code : DecodeCode) → is_uneven (length bytes) ≡ false
    → lowest (fault_at bytes) slot ≡ None → slot < length bytes / 8 → fault_at bytes slot ≡ Some code
    → decode_fault bytes ≡ Some (slot, code)
refused_at bytes slot code even before inside here =
    fault_from_lowest bytes (Some (slot, code)) even (lowest_at (fault_at bytes) slot (length bytes / 8) code before here inside)

-- at the end no second half is to come
pub none_pending : (bytes : List ℕ) (slot : ℕ) (p : List (Option Insn)) (half : Bool) → IsReadSoFar bytes slot p half
    → length bytes ≡ 8 * slot → IsReadSoFar bytes slot p false
none_pending bytes slot p false read whole = read
none_pending bytes slot p true read whole = let room : 8 * (slot + 1) ≤ length bytes = read.room in absurd (omega arith)

pub is_well_formed : (bytes : List ℕ) (slot : ℕ) (p : List (Option Insn)) → IsReadSoFar bytes slot p false → 0 < slot → slot ≤ 4096 → IsWellFormed p
is_well_formed bytes slot p read some few = record { some = omega (arith, read.count); few = omega (arith, read.count); defined = read.defined; placed = sym (append-nil p) ∙ read.laid }

pub is_program : (bytes : List ℕ) (slot : ℕ) (p : List (Option Insn)) → IsReadSoFar bytes slot p false → 0 < slot → slot ≤ 4096
    → length bytes ≡ 8 * slot → IsProgram bytes p
is_program bytes slot p read some few whole =
    let same : slot + 0 ≡ slot = omega arith in
    record {
      formed = is_well_formed bytes slot p read some few;
      encoded = sym (take_all (8 * slot) bytes (omega arith)) ∙ ap (λ (k : ℕ). take (8 * k) bytes) (sym same) ∙ read.encoded;
    }

-- ---- bytes encode one program at most

same_first : (i j : Insn) (xs ys : List ℕ) → IsDefined i → IsDefined j → encoding i ++ xs ≡ encoding j ++ ys → i ≡ j
same_first i j xs ys h k e =
    same_Some i j (sym (read_again i xs h).found ∙ ap (λ (b : List ℕ). found_in (slot_at b) (second_at b)) e ∙ (read_again j ys k).found)

rest_of : (xs ys : List ℕ) → drop (length xs) (xs ++ ys) ≡ ys
rest_of [] ys = refl
rest_of (x ∷ xs) ys = rest_of xs ys

slots_some : (i : Insn) → 0 < slots_in i
slots_some = by_wide (λ i. 0 < slots_in i) (λ dst value. omega arith) (λ i alone. let one : slots_in i ≡ 1 = ap length alone.placed in omega arith)

some_bytes : (i : Insn) (rest : List ℕ) → [] ≡ encoding i ++ rest → ⊥
some_bytes i rest e =
    let none : 0 ≡ length (encoding i ++ rest) = ap length e in
    let size : length (encoding i) ≡ 8 * slots_in i = length-encoding i in
    let some : 0 < slots_in i = slots_some i in
    omega (arith, length-append (encoding i) rest)

same_instructions : (is js : List Insn) → AllDefined is → AllDefined js → flat_map encoding is ≡ flat_map encoding js → is ≡ js
same_instructions [] [] h k e = refl
same_instructions [] (j ∷ js) h k e = absurd (some_bytes j (flat_map encoding js) (e ∙ flat_map-cons encoding j js))
same_instructions (i ∷ is) [] h k e = absurd (some_bytes i (flat_map encoding is) (sym e ∙ flat_map-cons encoding i is))
same_instructions (i ∷ is) (j ∷ js) h k e =
    let bytes : encoding i ++ flat_map encoding is ≡ encoding j ++ flat_map encoding js = sym (flat_map-cons encoding i is) ∙ e ∙ flat_map-cons encoding j js in
    let first : i ≡ j = same_first i j (flat_map encoding is) (flat_map encoding js) h.0 k.0 bytes in
    let here : encoding i ++ flat_map encoding is ≡ encoding i ++ flat_map encoding js =
    bytes ∙ ap (λ (x : Insn). encoding x ++ flat_map encoding js) (sym first) in
    let rest : flat_map encoding is ≡ flat_map encoding js =
    sym (rest_of (encoding i) (flat_map encoding is)) ∙ ap (drop (length (encoding i))) here ∙ rest_of (encoding i) (flat_map encoding js) in
    rw (first, same_instructions is js h.1 k.1 rest) refl

pub same_program : (bytes : List ℕ) (p q : List (Option Insn)) → IsProgram bytes p → IsProgram bytes q → p ≡ q
same_program bytes p q h k =
    h.formed.placed ∙ ap (flat_map placed) (same_instructions (instructions p) (instructions q) h.formed.defined k.formed.defined (sym h.encoded ∙ k.encoded)) ∙ sym k.formed.placed

pub back_again : (p q : List (Option Insn)) → IsWellFormed p → IsProgram (program_bytes p) q → q ≡ p
back_again p q formed h = same_program (program_bytes p) q p h (record { formed = formed; encoded = refl })

-- ---- a program's bytes have no fault

length-encodings : (is : List Insn) → length (flat_map encoding is) ≡ 8 * length (flat_map placed is)
length-encodings [] = refl
length-encodings (i ∷ is) =
    let bytes : length (flat_map encoding (i ∷ is)) ≡ length (encoding i) + length (flat_map encoding is) =
    ap length (flat_map-cons encoding i is) ∙ length-append (encoding i) (flat_map encoding is) in
    let slots : length (flat_map placed (i ∷ is)) ≡ slots_in i + length (flat_map placed is) =
    ap length (flat_map-cons placed i is) ∙ length-append (placed i) (flat_map placed is) in
    omega (arith, bytes, slots, length-encoding i, length-encodings is)

fine_at : (is : List Insn) (k : ℕ) → AllDefined is → k < length (flat_map placed is) → place_fault (flat_map encoding is) k ≡ None
fine_at [] k h lt = absurd (omega arith)
fine_at (i ∷ is) k h lt =
    let slots : length (flat_map placed (i ∷ is)) ≡ slots_in i + length (flat_map placed is) =
    ap length (flat_map-cons placed i is) ∙ length-append (placed i) (flat_map placed is) in
    ap (λ (b : List ℕ). place_fault b k) (flat_map-cons encoding i is)
    ∙ elim (cases_lt k (slots_in i)) [
      | inl below ↦ places_within i (flat_map encoding is) k h.0 below
      | inr above ↦ let split : k ≡ slots_in i + (k - slots_in i) = omega arith in
          ap (place_fault (encoding i ++ flat_map encoding is)) split ∙ places_after i (flat_map encoding is) (k - slots_in i) h.0 ∙ fine_at is (k - slots_in i) h.1 (omega arith)
    ]

pub no_decode_fault : (bytes : List ℕ) (p : List (Option Insn)) → IsProgram bytes p → decode_fault bytes ≡ None
no_decode_fault bytes p h =
    let slots : length p ≡ length (flat_map placed (instructions p)) = ap length h.formed.placed in
    let size : length bytes ≡ 8 * length (flat_map placed (instructions p)) = ap length h.encoded ∙ length-encodings (instructions p) in
    let some : 0 < length p = h.formed.some in
    let few : length p ≤ 4096 = h.formed.few in
    let even : is_uneven (length bytes) ≡ false = is_even (length bytes) (omega arith) (omega arith) in
    fault_from_lowest bytes None even (lowest_none (fault_at bytes) (length bytes / 8)
    (λ k lt. fault_at_is bytes k None (λ e. omega arith)
    (ap (λ (b : List ℕ). place_fault b k) h.encoded ∙ fine_at (instructions p) k h.formed.defined (omega arith))))

-- a program's bytes are refused only where an allocation fails
pub refusal_is : (bytes : List ℕ) (p : List (Option Insn)) (e : DecodeFault) → IsProgram bytes p → IsDecodeFault bytes e → e ≡ NoMemory
refusal_is bytes p NoMemory h refused = refl
refusal_is bytes p (Bad slot code) h refused = let fine = no_decode_fault bytes p h in absurd cc
