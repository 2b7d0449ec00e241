-- What is written of numbers, one after another: nothing between a line and the next.
use Rattle.std.proofs.Common.{◌≡◌, ℕ, zero, suc, ◌+◌, ◌-◌, ◌<◌, ◌≤◌, List, [], ◌++◌, length, Option, Some, None, refl, sym, ap, ◌∙◌, arith, add-one, subst, append_assoc}
use Rattle.std.proofs.lemmas.List.{append-nil}
use Rattle.ebpf_command.specs.declared.format.Format.{Format}
use Rattle.ebpf_explain.specs.StackWords.{texts_below}
use Rattle.ebpf_object_file.specs.declared.lines.Line.{Line}
use Rattle.ebpf_object_file.specs.declared.lines.Lines.{Lines}
use Rattle.ebpf_lines.specs.LineCounts.{line_below, most_below}
use Rattle.ebpf_lines.specs.Nearest.{nearest_below}
use Rattle.ebpf_lines.specs.SourceText.{line_in, line_if, numbered}
use Rattle.ebpf_lines.proofs.Nexts.{IsNext, is_next}

-- ---- texts of numbers

pub text_suc : (f : ℕ → List ℕ) (n : ℕ) → texts_below (suc n) f ≡ texts_below n f ++ f n
unfolding texts_below
text_suc f n = refl

pub no_numbers : (f : ℕ → List ℕ) → f 0 ≡ [] → texts_below 1 f ≡ []
unfolding texts_below
no_numbers f none = none

-- numbers of which nothing is written
passed : (f : ℕ → List ℕ) (from more : ℕ) → ((k : ℕ) → from ≤ k → k < from + more → f k ≡ []) → texts_below (from + more) f ≡ texts_below from f
passed f from zero none = let same : from + 0 ≡ from = omega arith in ap (λ (n : ℕ). texts_below n f) same
passed f from (suc more) none =
    let next : from + suc more ≡ suc (from + more) = omega arith in
    ap (λ (n : ℕ). texts_below n f) next ∙ text_suc f (from + more)
    ∙ ap (λ (xs : List ℕ). texts_below (from + more) f ++ xs) (none (from + more) (omega arith) (omega arith))
    ∙ append-nil (texts_below (from + more) f)
    ∙ passed f from more (λ k low high. none k low (omega (arith, high)))

pub passed_to : (f : ℕ → List ℕ) (from to : ℕ) → from ≤ to → ((k : ℕ) → from ≤ k → k < to → f k ≡ []) → texts_below to f ≡ texts_below from f
passed_to f from to le none =
    let same : from + (to - from) ≡ to = omega (arith, le) in
    ap (λ (n : ℕ). texts_below n f) (sym same) ∙ passed f from (to - from) (λ k low high. none k low (omega (arith, high, le)))

module _ (format : Format) (name : List ℕ) (l : Lines) (holding : List (Option Line)) (executed : ℕ → ℕ) (file : ℕ) where
  abbrev row : ℕ → List ℕ
  row number = numbered format name l holding executed file number

  -- a number that is no slot's
  nothing : (number : ℕ) → line_below holding file number (length holding) ≡ None → row number ≡ []
  nothing zero none = refl
  nothing (suc number) none = ap (line_if format name l (most_below executed holding file (suc number) (length holding))) none

  -- and one that is
  something : (number : ℕ) (n : Line) → 0 < number → line_below holding file number (length holding) ≡ Some n
      → row number ≡ line_in format name l (most_below executed holding file number (length holding)) n
  something zero n some is = absurd (omega (arith, some))
  something (suc number) n some is = ap (line_if format name l (most_below executed holding file (suc number) (length holding))) is

  -- nothing is before the first number
  pub none_written : (text : List ℕ) → text ≡ text ++ texts_below 1 row
  none_written text = sym (ap (λ (xs : List ℕ). text ++ xs) (no_numbers row refl) ∙ append-nil text)

  -- the next line is written
  pub next_written : (above : ℕ) (n : Line) (before text new : List ℕ) → nearest_below holding file above (length holding) ≡ Some n
      → text ≡ before ++ texts_below (above + 1) row → new ≡ text ++ line_in format name l (most_below executed holding file n.line (length holding)) n
      → (above < n.line) × (new ≡ before ++ texts_below (n.line + 1) row)
  next_written above n before text new found was is = (
    next.0,
    is ∙ ap (λ (xs : List ℕ). xs ++ line_in format name l (most_below executed holding file n.line (length holding)) n) was
        ∙ append_assoc before (texts_below (above + 1) row) (line_in format name l (most_below executed holding file n.line (length holding)) n)
        ∙ ap (λ (xs : List ℕ). before ++ xs) (
        ap (λ (xs : List ℕ). texts_below (above + 1) row ++ xs) (sym (something n.line n (let lt : above < n.line = next.0 in omega (arith, lt)) next.1))
        ∙ ap (λ (xs : List ℕ). xs ++ row n.line) (sym (passed_to row (above + 1) n.line (let lt : above < n.line = next.0 in omega (arith, lt))
        (λ k low high. nothing k (next.2 k (omega (arith, low)) high))))
        ∙ sym (text_suc row n.line)
        ∙ ap (λ (k : ℕ). texts_below k row) (sym (add-one n.line))),
  ) where
    next : IsNext above (λ number. line_below holding file number (length holding)) (Some n)
    next = subst (IsNext above (λ number. line_below holding file number (length holding))) found (is_next holding file above (length holding))

  -- there are no more
  pub all_written : (above : ℕ) (before text : List ℕ) → above < 4294967296 → nearest_below holding file above (length holding) ≡ None
      → text ≡ before ++ texts_below (above + 1) row → text ≡ before ++ texts_below 4294967296 row
  all_written above before text few found was =
      was ∙ ap (λ (xs : List ℕ). before ++ xs) (sym (passed_to row (above + 1) 4294967296 (omega (arith, few)) (λ k low high. nothing k (none k (omega (arith, low)))))) where
        none : (number : ℕ) → above < number → line_below holding file number (length holding) ≡ None
        none = subst (IsNext above (λ number. line_below holding file number (length holding))) found (is_next holding file above (length holding))

pub next_above : (holding : List (Option Line)) (file above : ℕ) (n : Line) → nearest_below holding file above (length holding) ≡ Some n → above < n.line
next_above holding file above n found = next.0 where
  next : IsNext above (λ number. line_below holding file number (length holding)) (Some n)
  next = subst (IsNext above (λ number. line_below holding file number (length holding))) found (is_next holding file above (length holding))
