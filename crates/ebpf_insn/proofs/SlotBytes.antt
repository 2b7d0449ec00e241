-- A slot's fields are read from its bytes, and its bytes are those that were read.
use Rattle.std.proofs.Common.{◌≡◌, ℕ, ◌+◌, ◌*◌, ◌/◌, ◌%◌, ◌<◌, ◌≤◌, ◌^◌, List, [], ◌∷◌, ◌++◌, length, get_or, take, refl, ap, ◌∙◌, arith}
use Rattle.byteorder.specs.Endian.{little_bytes}
use Rattle.ebpf_insn.specs.declared.slot.Slot.{Slot}
use Rattle.ebpf_insn.specs.Slot.{slot_at, bytes_of_slot}

abbrev pub IsBytes : List ℕ → Type 0
IsBytes bytes = (i : ℕ) → get_or bytes i 0 < 256

two_bytes : (a b : ℕ) → a < 256 → b < 256 → little_bytes 2 (a + 256 * (b + 0)) ≡ a ∷ b ∷ []
two_bytes a b p q =
    let low : (a + 256 * (b + 0)) % 256 ≡ a = omega arith in
    let high : (a + 256 * (b + 0)) / 256 % 256 ≡ b = omega arith in
    rw (low, high) refl

four_bytes : (a b c d : ℕ) → a < 256 → b < 256 → c < 256 → d < 256 → little_bytes 4 (a + 256 * (b + 256 * (c + 256 * (d + 0)))) ≡ a ∷ b ∷ c ∷ d ∷ []
four_bytes a b c d p q r s =
    let e0 : (a + 256 * (b + 256 * (c + 256 * (d + 0)))) % 256 ≡ a = omega arith in
    let e1 : (a + 256 * (b + 256 * (c + 256 * (d + 0)))) / 256 % 256 ≡ b = omega arith in
    let e2 : (a + 256 * (b + 256 * (c + 256 * (d + 0)))) / 65536 % 256 ≡ c = omega arith in
    let e3 : (a + 256 * (b + 256 * (c + 256 * (d + 0)))) / 16777216 % 256 ≡ d = omega arith in
    rw (e0, e1, e2, e3) refl

pub bytes_of_slot-slot_at : (bytes : List ℕ) → IsBytes bytes → 8 ≤ length bytes → bytes_of_slot (slot_at bytes) ≡ take 8 bytes
bytes_of_slot-slot_at (a ∷ b ∷ c ∷ d ∷ e ∷ f ∷ g ∷ h ∷ rest) fits long =
    let registers : b % 16 + 16 * (b / 16) ≡ b = omega arith in
    ap (λ (x : ℕ). a ∷ x ∷ (little_bytes 2 (c + 256 * (d + 0)) ++ little_bytes 4 (e + 256 * (f + 256 * (g + 256 * (h + 0)))))) registers
    ∙ ap (λ (x : List ℕ). a ∷ b ∷ (x ++ little_bytes 4 (e + 256 * (f + 256 * (g + 256 * (h + 0)))))) (two_bytes c d (fits 2) (fits 3))
    ∙ ap (λ (x : List ℕ). a ∷ b ∷ c ∷ d ∷ x) (four_bytes e f g h (fits 4) (fits 5) (fits 6) (fits 7))
bytes_of_slot-slot_at _ fits long = absurd (omega arith)

-- a slot whose fields have their sizes
pub record FitsSlot (s : Slot) : Type 0 where
  pub opcode : s.opcode < 256
  pub dst : s.dst < 16
  pub src : s.src < 16
  pub offset : s.offset < 2 ^ 16
  pub imm : s.imm < 2 ^ 32

pub same_slot : (s t : Slot) → s.opcode ≡ t.opcode → s.dst ≡ t.dst → s.src ≡ t.src → s.offset ≡ t.offset → s.imm ≡ t.imm → s ≡ t
same_slot s t opcode dst src offset imm =
    ap (λ (x : ℕ). let u : Slot = record { opcode = x; dst = s.dst; src = s.src; offset = s.offset; imm = s.imm } in u) opcode
    ∙ ap (λ (x : ℕ). let u : Slot = record { opcode = t.opcode; dst = x; src = s.src; offset = s.offset; imm = s.imm } in u) dst
    ∙ ap (λ (x : ℕ). let u : Slot = record { opcode = t.opcode; dst = t.dst; src = x; offset = s.offset; imm = s.imm } in u) src
    ∙ ap (λ (x : ℕ). let u : Slot = record { opcode = t.opcode; dst = t.dst; src = t.src; offset = x; imm = s.imm } in u) offset
    ∙ ap (λ (x : ℕ). let u : Slot = record { opcode = t.opcode; dst = t.dst; src = t.src; offset = t.offset; imm = x } in u) imm

-- the fields of two and of four bytes, read again
two_again : (n : ℕ) → n < 2 ^ 16 → n % 256 + 256 * (n / 256 % 256 + 0) ≡ n
two_again n lt = omega arith

four_again : (n : ℕ) → n < 2 ^ 32 → n % 256 + 256 * (n / 256 % 256 + 256 * (n / 65536 % 256 + 256 * (n / 16777216 % 256 + 0))) ≡ n
four_again n lt = omega arith

pub slot_at-bytes_of_slot : (s : Slot) (rest : List ℕ) → FitsSlot s → slot_at (bytes_of_slot s ++ rest) ≡ s
slot_at-bytes_of_slot s rest fits =
    same_slot (slot_at (bytes_of_slot s ++ rest)) s refl (omega (arith, fits.dst)) (omega (arith, fits.dst)) (two_again s.offset fits.offset) (four_again s.imm fits.imm)
