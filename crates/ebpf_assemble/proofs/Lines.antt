-- The lines of bytes: those of the first eight, and then those of the rest.
use Rattle.std.proofs.Common.{◌≡◌, ℕ, ◌<◌, min, List, [], ◌∷◌, ◌++◌, length, refl, sym, ap, ◌∙◌, append-nil, append_assoc, length-append, inl, inr, arith}
use Rattle.std.proofs.lemmas.Bool.{cases_lt}
use Rattle.std.proofs.lemmas.List.{nil_from_length}
use Rattle.std.specs.Prelude.{codes}
use Rattle.hex.specs.Hex.{encode_lower}
use Rattle.ebpf_assemble.specs.SlotsText.{hex_line, slot_lines}

-- eight bytes
whole_line : (chunk rest : List ℕ) → length chunk ≡ 8 → slot_lines (chunk ++ rest) ≡ hex_line chunk ++ slot_lines rest
unfolding slot_lines
whole_line [] rest e = absurd cc
whole_line (a ∷ []) rest e = absurd cc
whole_line (a ∷ b ∷ []) rest e = absurd cc
whole_line (a ∷ b ∷ c ∷ []) rest e = absurd cc
whole_line (a ∷ b ∷ c ∷ d ∷ []) rest e = absurd cc
whole_line (a ∷ b ∷ c ∷ d ∷ f ∷ []) rest e = absurd cc
whole_line (a ∷ b ∷ c ∷ d ∷ f ∷ g ∷ []) rest e = absurd cc
whole_line (a ∷ b ∷ c ∷ d ∷ f ∷ g ∷ h ∷ []) rest e = absurd cc
whole_line (a ∷ b ∷ c ∷ d ∷ f ∷ g ∷ h ∷ i ∷ []) rest e = refl
whole_line (a ∷ b ∷ c ∷ d ∷ f ∷ g ∷ h ∷ i ∷ j ∷ more) rest e = absurd (omega arith)

-- fewer, and more than none
last_line : (chunk : List ℕ) → 0 < length chunk → length chunk < 8 → slot_lines chunk ≡ hex_line chunk
unfolding slot_lines
last_line [] some few = absurd (omega arith)
last_line (a ∷ []) some few = refl
last_line (a ∷ b ∷ []) some few = refl
last_line (a ∷ b ∷ c ∷ []) some few = refl
last_line (a ∷ b ∷ c ∷ d ∷ []) some few = refl
last_line (a ∷ b ∷ c ∷ d ∷ f ∷ []) some few = refl
last_line (a ∷ b ∷ c ∷ d ∷ f ∷ g ∷ []) some few = refl
last_line (a ∷ b ∷ c ∷ d ∷ f ∷ g ∷ h ∷ []) some few = refl
last_line (a ∷ b ∷ c ∷ d ∷ f ∷ g ∷ h ∷ i ∷ more) some few = absurd (omega arith)

pub no_line : slot_lines [] ≡ []
unfolding slot_lines
no_line = refl

-- a chunk is eight bytes, or the last
pub line_of_chunk : (all chunk rest : List ℕ) → all ≡ chunk ++ rest → length chunk ≡ min 8 (length all) → 0 < length all
    → slot_lines all ≡ hex_line chunk ++ slot_lines rest
line_of_chunk all chunk rest parts size some =
    let sum = ap length parts ∙ length-append chunk rest in
    elim (cases_lt (length all) 8) [
      | inl short ↦
          let none : rest ≡ [] = nil_from_length rest (omega arith) in
          let has : 0 < length chunk = omega arith in
          let few : length chunk < 8 = omega arith in
          rw (parts, none, append-nil, no_line, append-nil) (last_line chunk has few)
      | inr long ↦ let eight : length chunk ≡ 8 = omega arith in ap slot_lines parts ∙ whole_line chunk rest eight
    ]

-- the line of a chunk is written
pub line_more : (before text all chunk rest bytes : List ℕ) → all ≡ chunk ++ rest → length chunk ≡ min 8 (length all)
    → 0 < length all → text ≡ before ++ hex_line chunk
    → before ++ slot_lines all ≡ slot_lines bytes → text ++ slot_lines rest ≡ slot_lines bytes
line_more before text all chunk rest bytes parts size some written h =
    ap (λ (x : List ℕ). x ++ slot_lines rest) written
    ∙ (append_assoc before (hex_line chunk) (slot_lines rest)
    ∙ (ap (λ (x : List ℕ). before ++ x) (sym (line_of_chunk all chunk rest parts size some)) ∙ h))

-- no byte is left
pub none_more : (text rest bytes : List ℕ) → length rest ≡ 0 → text ++ slot_lines rest ≡ slot_lines bytes → text ≡ slot_lines bytes
none_more text rest bytes none h =
    sym (append-nil text) ∙ (ap (λ (x : List ℕ). text ++ x) (sym (ap slot_lines (nil_from_length rest none) ∙ no_line)) ∙ h)

-- a line is its digits and a newline
pub line_of_digits : (before digits mid text chunk : List ℕ) → digits ≡ encode_lower chunk → mid ≡ before ++ digits
    → text ≡ mid ++ codes "\n" → text ≡ before ++ hex_line chunk
line_of_digits before digits mid text chunk is one two =
    two ∙ (ap (λ (x : List ℕ). x ++ codes "\n") (one ∙ ap (λ (x : List ℕ). before ++ x) is) ∙ append_assoc before (encode_lower chunk) (codes "\n"))
