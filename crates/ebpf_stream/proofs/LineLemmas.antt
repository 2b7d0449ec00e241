-- Lines that are answered one after another, and lines that are split as they come.
use Rattle.std.proofs.Common.{◌≡◌, ℕ, zero, suc, ◌-◌, ◌<◌, ◌≤◌, ◌==◌, nat_lt, true, false, List, [], ◌∷◌, ◌++◌, length, take, Some, refl, sym, ap}
use Rattle.std.proofs.Common.{◌∙◌, subst, arith, append_assoc, append-nil, inl, inr, eq-zero-or-pos, length-take-le}
use Rattle.std.specs.List.{All}
use Rattle.std.proofs.lemmas.Bool.Decides.{nat_tests}
use Rattle.std.proofs.lemmas.List.{take_all, take-append-le, take-take}
use Rattle.std.proofs.lemmas.List.Splits.{slice_split_at, slice_split_none}
use Rattle.std.proofs.Math.Seq.{take-append_seam}
use Rattle.ebpf_command.specs.declared.done.FaultCode.TheVariants.{InputTooLong}
use Rattle.ebpf_reader.specs.ParsedScript.{ParsedScript}
use Rattle.ebpf_reader.specs.ScriptLines.{script_lines}
use Rattle.ebpf_stream.specs.Answering.{Setting, Position, IsAnswered, AreAnswered, stream_fault}

-- a line more is answered
pub answered_more : (s : Setting) (lines : List (List ℕ)) (line : List ℕ) (a b c : Position) (t u : List ℕ)
    → AreAnswered s lines a b t → IsAnswered s line b c u → AreAnswered s (lines ++ line ∷ []) a c (t ++ u)
answered_more s [] line a b c t u h here = (
  c,
  u,
  [],
  subst (λ (p : Position). IsAnswered s line p c u) h.0 here,
  (refl, refl),
  ap (λ (xs : List ℕ). xs ++ u) h.1 ∙ sym (append-nil u),
)
answered_more s (first ∷ lines) line a b c t u h here = (
  h.0,
  h.1,
  h.2 ++ u,
  h.3,
  answered_more s lines line h.0 b c h.2 u h.4 here,
  ap (λ (xs : List ℕ). xs ++ u) h.5 ∙ append_assoc h.1 h.2 u,
)

-- ---- a line that is too long is known by its first bytes

long_fault : (parsed : ParsedScript) (line : List ℕ) → 65536 < length line → stream_fault parsed line ≡ Some InputTooLong
unfolding stream_fault
long_fault parsed line long =
    let test : nat_lt 65536 (length line) ≡ true = grind (arith, nat_tests) in
    rw test refl

pub answered_whole : (s : Setting) (line : List ℕ) (a b : Position) (t : List ℕ) → IsAnswered s (take 65537 line) a b t → IsAnswered s line a b t
answered_whole s line a b t h = elim (eq-zero-or-pos (length line - 65537)) [
  | inl short ↦
      let same : take 65537 line ≡ line = take_all 65537 line (omega (arith, short)) in
      subst (λ (xs : List ℕ). IsAnswered s xs a b t) same h
  | inr long ↦
      let more : 65537 ≤ length line = omega (arith, long) in
      let kept : length (take 65537 line) ≡ 65537 = length-take-le 65537 line more in
      rw (long_fault s.parsed line (omega (arith, more))) (rw (long_fault s.parsed (take 65537 line) (omega (arith, kept))) at h)
]

-- bytes that are kept of a line, and bytes after them
pub kept_more : (next piece : List ℕ) → take 65537 (take 65537 next ++ piece) ≡ take 65537 (next ++ piece)
kept_more next piece = elim (eq-zero-or-pos (length next - 65537)) [
  | inl short ↦ ap (λ (xs : List ℕ). take 65537 (xs ++ piece)) (take_all 65537 next (omega (arith, short)))
  | inr long ↦
      let more : 65537 ≤ length next = omega (arith, long) in
      let kept : length (take 65537 next) ≡ 65537 = length-take-le 65537 next more in
      take-append-le 65537 (take 65537 next) piece (omega (arith, kept)) ∙ (take-take 65537 65537 next (omega arith) ∙ sym (take-append-le 65537 next piece more))
]

nothing_taken : (n : ℕ) (xs : List ℕ) → take (suc n) xs ≡ [] → xs ≡ []
nothing_taken n [] none = refl
nothing_taken n (x ∷ xs) none = absurd cc

pub nothing_kept : (next : List ℕ) → take 65537 next ≡ [] → next ≡ []
nothing_kept next none = nothing_taken 65536 next none

pub take_short : (n : ℕ) (xs : List ℕ) → length (take n xs) ≤ n
take_short zero [] = omega arith
take_short zero (x ∷ xs) = omega arith
take_short (suc n) [] = omega arith
take_short (suc n) (x ∷ xs) = omega (arith, take_short n xs)

pub not_ten : (c : ℕ) → (c ≡ 10 → ⊥) → (c == 10) ≡ false
not_ten c other = grind (arith, nat_tests)

pub is_zero : (n : ℕ) → (n == 0) ≡ true → n ≡ 0
is_zero n h = grind (arith, nat_tests)

pub none_in : (xs : List ℕ) → length xs ≡ 0 → xs ≡ []
none_in [] none = refl
none_in (x ∷ xs) none = absurd (omega (arith, none))

-- ---- lines that are split as they come

-- these lines ended, and this has come of the next
abbrev pub IsSplit : (seen : List ℕ) → (lines : List (List ℕ)) → (next : List ℕ) → Type 0
IsSplit seen lines next = (rest : List ℕ) → script_lines (seen ++ rest) ≡ lines ++ script_lines (next ++ rest)

pub split_none : IsSplit [] [] []
split_none rest = refl

pub split_more : (seen : List ℕ) (lines : List (List ℕ)) (next piece : List ℕ) → IsSplit seen lines next → IsSplit (seen ++ piece) lines (next ++ piece)
split_more seen lines next piece h rest =
    ap script_lines (append_assoc seen piece rest)
    ∙ (h (piece ++ rest) ∙ ap (λ (xs : List ℕ). lines ++ script_lines xs) (sym (append_assoc next piece rest)))

pub split_ended : (seen : List ℕ) (lines : List (List ℕ)) (next : List ℕ) → All (λ c. (c == 10) ≡ false) next → IsSplit seen lines next
    → IsSplit (seen ++ 10 ∷ []) (lines ++ next ∷ []) []
split_ended seen lines next whole h rest =
    ap script_lines (append_assoc seen (10 ∷ []) rest)
    ∙ (h (10 ∷ rest) ∙ (ap (λ (xs : List (List ℕ)). lines ++ xs) (slice_split_at (λ c. c == 10) next 10 rest whole refl)
    ∙ sym (append_assoc lines (next ∷ []) (script_lines rest))))

-- where nothing comes after, the next line is the last
pub split_all : (seen : List ℕ) (lines : List (List ℕ)) (next : List ℕ) → All (λ c. (c == 10) ≡ false) next → IsSplit seen lines next
    → script_lines seen ≡ lines ++ next ∷ []
split_all seen lines next whole h =
    ap script_lines (sym (append-nil seen))
    ∙ (h [] ∙ ap (λ (xs : List (List ℕ)). lines ++ xs) (ap script_lines (append-nil next) ∙ slice_split_none (λ c. c == 10) next whole))

-- the lines that ended are the first, whatever comes after
pub split_front : (seen rest : List ℕ) (lines : List (List ℕ)) (next : List ℕ) → IsSplit seen lines next
    → take (length lines) (script_lines (seen ++ rest)) ≡ lines
split_front seen rest lines next h =
    ap (λ (xs : List (List ℕ)). take (length lines) xs) (h rest) ∙ take-append_seam lines (script_lines (next ++ rest))
