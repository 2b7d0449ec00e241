-- Each slot has a word, no two have one, and each word of a slot of the table is in it.
use Rattle.std.proofs.Common.{◌≡◌, ℕ, ◌<◌, sym, ap, ◌∙◌, arith}
use Rattle.owners_table.specs.Place.{place, slot_at, words_in}

pub slot_at-place : (slot : ℕ) → slot_at (place slot) ≡ slot
slot_at-place slot = omega arith

pub place-slot_at : (p : ℕ) → place (slot_at p) ≡ p
place-slot_at p = omega arith

pub slot_at-injective : (k p : ℕ) → slot_at k ≡ slot_at p → k ≡ p
slot_at-injective k p e = sym (place-slot_at k) ∙ (ap place e ∙ place-slot_at p)

pub inside : (slots p : ℕ) → slot_at p < slots → p < words_in slots
inside slots p l = omega arith

pub slot-inside : (slots slot : ℕ) → slot < slots → place slot < words_in slots
slot-inside slots slot l = let e = slot_at-place slot in inside slots (place slot) (omega (arith, l, e))
