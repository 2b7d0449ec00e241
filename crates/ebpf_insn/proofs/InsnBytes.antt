-- The bytes of an instruction, with whatever follows them.
use Rattle.std.proofs.Common.{◌≡◌, ℕ, zero, suc, ◌+◌, ◌*◌, ◌/◌, ◌<◌, ◌^◌, true, false, eqb, nat_le, List, [], ◌∷◌, ◌++◌, length, drop, Option}
use Rattle.std.proofs.Common.{Some, None, refl, sym, ap, ◌∙◌, arith}
use Rattle.std.proofs.lemmas.Bool.Decides.{nat_tests}
use Rattle.std.proofs.lemmas.List.{append-nil, drop-drop, length-append}
use Rattle.std.specs.List.{flat_map}
use Rattle.ebpf_insn.specs.declared.slot.Slot.{Slot}
use Rattle.ebpf_insn.specs.declared.register.Reg.{Reg}
use Rattle.ebpf_insn.specs.declared.insn.Insn.{Insn}
use Rattle.ebpf_insn.specs.declared.insn.Insn.TheVariants as insn
use Rattle.ebpf_insn.specs.declared.opcode.Form.TheVariants.{Wide}
use Rattle.ebpf_insn.specs.Slot.{slot_at, bytes_of_slot}
use Rattle.ebpf_insn.specs.Program.{placed, slots_in}
use Rattle.ebpf_insn.specs.Opcodes.{opcode_of}
use Rattle.ebpf_insn.specs.Encoding.{first_slot, later_slots, second_half, encoding, IsDefined}
use Rattle.ebpf_insn.specs.Decoding.{second_at, place_fault}
use Rattle.ebpf_insn.proofs.SlotBytes.{slot_at-bytes_of_slot}
use Rattle.ebpf_insn.proofs.ToSlots.{IsReadFrom, Follows, insn_read, is_wide, wide_opcode, first_fits, second_fits}

-- ---- an instruction takes up one slot, or is a wide one

pub record IsAlone (i : Insn) : Type 0 where
  pub other : is_wide i ≡ false
  pub later : later_slots i ≡ []
  pub placed : placed i ≡ Some i ∷ []
  pub follows : (second : Option Slot) → Follows i second

pub by_wide : (P : Insn → Type 0) → ((dst : Reg) (value : ℕ) → P (insn.Wide dst value)) → ((i : Insn) → IsAlone i → P i) → (i : Insn) → P i
by_wide P wide alone (insn.Alu width o dst src) = alone _ (record { other = refl; later = refl; placed = refl; follows = λ s. tt })
by_wide P wide alone (insn.Sext width bits dst src) = alone _ (record { other = refl; later = refl; placed = refl; follows = λ s. tt })
by_wide P wide alone (insn.Neg width dst) = alone _ (record { other = refl; later = refl; placed = refl; follows = λ s. tt })
by_wide P wide alone (insn.Swap order bits dst) = alone _ (record { other = refl; later = refl; placed = refl; follows = λ s. tt })
by_wide P wide alone (insn.Wide dst value) = wide dst value
by_wide P wide alone (insn.Load size signed dst base offset) = alone _ (record { other = refl; later = refl; placed = refl; follows = λ s. tt })
by_wide P wide alone (insn.Store size base offset src) = alone _ (record { other = refl; later = refl; placed = refl; follows = λ s. tt })
by_wide P wide alone (insn.Jump offset) = alone _ (record { other = refl; later = refl; placed = refl; follows = λ s. tt })
by_wide P wide alone (insn.JumpFar offset) = alone _ (record { other = refl; later = refl; placed = refl; follows = λ s. tt })
by_wide P wide alone (insn.Branch width c left right offset) = alone _ (record { other = refl; later = refl; placed = refl; follows = λ s. tt })
by_wide P wide alone (insn.Call number) = alone _ (record { other = refl; later = refl; placed = refl; follows = λ s. tt })
by_wide P wide alone insn.Exit = alone _ (record { other = refl; later = refl; placed = refl; follows = λ s. tt })

-- ---- its bytes

alone_bytes : (i : Insn) → IsAlone i → encoding i ≡ bytes_of_slot (first_slot i)
alone_bytes i alone = rw alone.later (append-nil (bytes_of_slot (first_slot i)))

pub length-encoding : (i : Insn) → length (encoding i) ≡ 8 * slots_in i
length-encoding = by_wide (λ i. length (encoding i) ≡ 8 * slots_in i) (λ dst value. refl)
    (λ i alone. ap length (alone_bytes i alone) ∙ sym (ap (λ (p : List (Option Insn)). 8 * length p) alone.placed))

pub first_at : (i : Insn) (rest : List ℕ) → IsDefined i → slot_at (encoding i ++ rest) ≡ first_slot i
first_at i rest h = slot_at-bytes_of_slot (first_slot i) (flat_map bytes_of_slot (later_slots i) ++ rest) (first_fits i h)

wide_second : (dst : Reg) (value : ℕ) (rest : List ℕ) → value < 2 ^ 64
    → second_at (encoding (insn.Wide dst value) ++ rest) ≡ Some (second_half (value / 2 ^ 32))
wide_second dst value rest lt =
    let size : length (encoding (insn.Wide dst value) ++ rest) ≡ 16 + length rest = length-append (encoding (insn.Wide dst value)) rest in
    let long : nat_le 16 (length (encoding (insn.Wide dst value) ++ rest)) ≡ true = rw size (grind (arith, nat_tests)) in
    rw long (ap Some (slot_at-bytes_of_slot (second_half (value / 2 ^ 32)) rest (second_fits value lt)))

-- an instruction is read from its bytes
pub read_again : (i : Insn) (rest : List ℕ) → IsDefined i → IsReadFrom i (slot_at (encoding i ++ rest)) (second_at (encoding i ++ rest))
read_again i rest h = by_wide (λ j. IsDefined j → IsReadFrom j (slot_at (encoding j ++ rest)) (second_at (encoding j ++ rest)))
    (λ dst value lt. rw (first_at (insn.Wide dst value) rest lt, wide_second dst value rest lt) (insn_read (insn.Wide dst value) _ lt refl))
    (λ j alone defined. rw (first_at j rest defined) (insn_read j _ defined (alone.follows _))) i h

-- ---- the slots after it

behind : (s : Slot) (rest : List ℕ) (n : ℕ) → drop (8 + n) (bytes_of_slot s ++ rest) ≡ drop n rest
behind s rest n = sym (drop-drop n 8 (bytes_of_slot s ++ rest))

-- a slot further on, after one that isn't the first of a wide instruction
shifted : (s : Slot) (rest : List ℕ) (k : ℕ) → (k ≡ 0 → eqb s.opcode (opcode_of Wide) ≡ false)
    → place_fault (bytes_of_slot s ++ rest) (suc k) ≡ place_fault rest k
shifted s rest zero other = rw (other refl) refl
shifted s rest (suc k) other =
    let next : 8 * suc k ≡ 8 + 8 * k = omega arith in
    let after : 8 * suc (suc k) ≡ 8 + (8 + 8 * k) = omega arith in
    rw (after, next, behind s rest (8 * k), behind s rest (8 + 8 * k)) refl

-- the places after an instruction's bytes are those of the rest
pub places_after : (i : Insn) (rest : List ℕ) (k : ℕ) → IsDefined i → place_fault (encoding i ++ rest) (slots_in i + k) ≡ place_fault rest k
places_after i rest k h = by_wide (λ j. IsDefined j → place_fault (encoding j ++ rest) (slots_in j + k) ≡ place_fault rest k)
    (λ dst value lt.
    let next : slots_in (insn.Wide dst value) + k ≡ suc (suc k) = omega arith in
    ap (place_fault (encoding (insn.Wide dst value) ++ rest)) next
    ∙ shifted (first_slot (insn.Wide dst value)) (bytes_of_slot (second_half (value / 2 ^ 32)) ++ rest) (suc k) (λ e. absurd (omega arith))
    ∙ shifted (second_half (value / 2 ^ 32)) rest k (λ e. refl))
    (λ j alone defined.
    let one : slots_in j ≡ 1 = ap length alone.placed in
    let next : slots_in j + k ≡ suc k = omega arith in
    ap (place_fault (encoding j ++ rest)) next
    ∙ ap (λ (b : List ℕ). place_fault (b ++ rest) (suc k)) (alone_bytes j alone)
    ∙ shifted (first_slot j) rest k (λ e. wide_opcode j defined ∙ alone.other)) i h

-- and its own places have no fault
pub places_within : (i : Insn) (rest : List ℕ) (k : ℕ) → IsDefined i → k < slots_in i → place_fault (encoding i ++ rest) k ≡ None
places_within i rest zero h lt = (read_again i rest h).fine
places_within i rest (suc k) h lt = by_wide (λ j. IsDefined j → suc k < slots_in j → place_fault (encoding j ++ rest) (suc k) ≡ None)
    (λ dst value fits below.
    let e : k ≡ 0 = omega arith in rw e refl)
    (λ j alone defined below. absurd (let one : slots_in j ≡ 1 = ap length alone.placed in omega arith)) i h lt
