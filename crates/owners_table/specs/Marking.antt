-- Marks as words. A mark is a run and a call of its program.
use Rattle.std.specs.Prelude.{ℕ, ◌+◌, ◌*◌, ◌^◌, ◌<◌, ◌≤◌}
use Rattle.owners_table.specs.declared.mark.TheConstants.{WORDS_OF_A_RUN}

-- the word of the mark of a run and a call
abbrev pub mark_word : ℕ → ℕ → ℕ
mark_word run at = (run + 1) * WORDS_OF_A_RUN + at

-- some mark has this word: run 0 at call 0 has the least, and the last run at its last call the greatest
abbrev pub IsMarkWord : ℕ → Type 0
IsMarkWord w = (WORDS_OF_A_RUN ≤ w) × (w < (2 ^ 32 + 1) * WORDS_OF_A_RUN)
