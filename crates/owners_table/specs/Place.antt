-- Which word of the table each slot has. Slots come in blocks of 65,536. Within a block the upper four of sixteen bits become the
-- lower four, so the words of neighbours are sixteen words apart.
use Rattle.std.specs.Prelude.{ℕ, ◌+◌, ◌*◌, ◌/◌, ◌%◌, min}

-- the word of a slot
abbrev pub place : ℕ → ℕ
place slot = slot / 65536 * 65536 + slot % 4096 * 16 + slot / 4096 % 16

-- the slot that has a word: `place` turned back
abbrev pub slot_at : ℕ → ℕ
slot_at word = word / 65536 * 65536 + word % 16 * 4096 + word / 16 % 4096

-- how many words a table of this many slots has: room for the word of each, and one more
abbrev pub words_in : ℕ → ℕ
words_in slots = slots / 65536 * 65536 + min (slots % 65536 * 16) 65536 + 1
