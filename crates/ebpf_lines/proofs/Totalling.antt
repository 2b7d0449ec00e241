-- The records of a file and their totals, from one line to the next.
use Rattle.std.proofs.Common.{◌≡◌, ℕ, zero, suc, ◌+◌, ◌<◌, ◌≤◌, List, [], ◌++◌, Option, Some, None, refl, sym, ap, ◌∙◌, arith, subst, append_assoc, add-one}
use Rattle.std.proofs.lemmas.List.{append-nil}
use Rattle.ebpf_explain.specs.StackWords.{texts_below}
use Rattle.ebpf_object_file.specs.declared.lines.Line.{Line}
use Rattle.ebpf_lines.specs.declared.tracefile.Totals.{Totals}
use Rattle.ebpf_lines.specs.LineCounts.{line_below}
use Rattle.ebpf_lines.specs.Nearest.{nearest_below}
use Rattle.ebpf_lines.specs.Traced.{AreTotals, WithLine}
use Rattle.ebpf_lines.specs.Tracefile.{Trace, at_line, hit_in, line_record, lines_in, most_of, of_line, positive, records_in, slots_of, sum_below, ways_at, ways_hit_at, ways_hit_in, ways_in}
use Rattle.ebpf_lines.proofs.Nexts.{IsNext, is_next}
use Rattle.ebpf_lines.proofs.Numbers.{no_numbers, passed_to, text_suc}
use Rattle.ebpf_lines.proofs.Sums.{sum_more, sum_passed_to, sum_zero}

nothing : {A : Type 0} (t : Trace) (file : ℕ) (none : A) (here : ℕ → A) (number : ℕ) → line_below t.holding file number (slots_of t) ≡ None
    → at_line t file none here number ≡ none
nothing t file none here zero is = refl
nothing t file none here (suc number) is = ap (of_line none (here (suc number))) is

something : {A : Type 0} (t : Trace) (file : ℕ) (none : A) (here : ℕ → A) (number : ℕ) (n : Line) → 0 < number → line_below t.holding file number (slots_of t) ≡ Some n
    → at_line t file none here number ≡ here number
something t file none here zero n some is = absurd (omega (arith, some))
something t file none here (suc number) n some is = ap (of_line none (here (suc number))) is

next_of : (t : Trace) (file above : ℕ) (found : Option Line) → nearest_below t.holding file above (slots_of t) ≡ found
    → IsNext above (λ number. line_below t.holding file number (slots_of t)) found
next_of t file above found is = subst (IsNext above (λ number. line_below t.holding file number (slots_of t))) is (is_next t.holding file above (slots_of t))

-- ---- a line more

module _ (t : Trace) (file above : ℕ) (n : Line) (found : nearest_below t.holding file above (slots_of t) ≡ Some n) where
  next : IsNext above (λ number. line_below t.holding file number (slots_of t)) (Some n)
  next = next_of t file above (Some n) found

  pub lower : above < n.line
  lower = next.0

  between : {A : Type 0} (none : A) (here : ℕ → A) (k : ℕ) → above + 1 ≤ k → k < n.line → at_line t file none here k ≡ none
  between none here k low high = nothing t file none here k (next.2 k (omega (arith, low)) high)

  at : {A : Type 0} (none : A) (here : ℕ → A) → at_line t file none here n.line ≡ here n.line
  at none here = something t file none here n.line n (let lt = lower in omega (arith, lt)) next.1

  sum_next : (here : ℕ → ℕ) → sum_below (n.line + 1) (λ k. at_line t file 0 here k) ≡ sum_below (above + 1) (λ k. at_line t file 0 here k) + here n.line
  sum_next here =
      let same = sum_passed_to (λ k. at_line t file 0 here k) (above + 1) n.line (let lt = lower in omega (arith, lt)) (between 0 here) in
      let here_is = at 0 here in
      sum_more (λ k. at_line t file 0 here k) n.line ∙ omega (arith, same, here_is)

  pub text_next : (before text new : List ℕ) → text ≡ before ++ texts_below (above + 1) (records_in t file) → new ≡ text ++ line_record t file n.line
      → new ≡ before ++ texts_below (n.line + 1) (records_in t file)
  text_next before text new was is =
      is ∙ ap (λ (xs : List ℕ). xs ++ line_record t file n.line) was
      ∙ append_assoc before (texts_below (above + 1) (records_in t file)) (line_record t file n.line)
      ∙ ap (λ (xs : List ℕ). before ++ xs) (
      ap (λ (xs : List ℕ). texts_below (above + 1) (records_in t file) ++ xs) (sym (at [] (line_record t file)))
      ∙ ap (λ (xs : List ℕ). xs ++ records_in t file n.line) (sym (passed_to (records_in t file) (above + 1) n.line (let lt = lower in omega (arith, lt)) (between [] (line_record t file))))
      ∙ sym (text_suc (records_in t file) n.line)
      ∙ ap (λ (k : ℕ). texts_below k (records_in t file)) (sym (add-one n.line)))

  pub totals_next : (old new : Totals)
      → AreTotals (sum_below (above + 1) (lines_in t file)) (sum_below (above + 1) (hit_in t file)) (sum_below (above + 1) (ways_in t file)) (sum_below (above + 1) (ways_hit_in t file)) old
      → WithLine (positive (most_of t file n.line)) (sum_below (slots_of t) (ways_at t file n.line)) (sum_below (slots_of t) (ways_hit_at t file n.line)) old new
      → AreTotals (sum_below (n.line + 1) (lines_in t file)) (sum_below (n.line + 1) (hit_in t file)) (sum_below (n.line + 1) (ways_in t file)) (sum_below (n.line + 1) (ways_hit_in t file)) new
  totals_next old new were with = record {
    lines_are = let more = sum_next (λ number. 1) in omega (arith, more, were.lines_are, with.lines_are);
    hit_are = let more = sum_next (λ number. positive (most_of t file number)) in omega (arith, more, were.hit_are, with.hit_are);
    ways_are = let more = sum_next (λ number. sum_below (slots_of t) (ways_at t file number)) in omega (arith, more, were.ways_are, with.ways_are);
    ways_hit_are = let more = sum_next (λ number. sum_below (slots_of t) (ways_hit_at t file number)) in omega (arith, more, were.ways_hit_are, with.ways_hit_are);
  }

-- ---- before the first line, and after the last

pub text_first : (t : Trace) (file : ℕ) (text : List ℕ) → text ≡ text ++ texts_below 1 (records_in t file)
text_first t file text = sym (ap (λ (xs : List ℕ). text ++ xs) (no_numbers (records_in t file) refl) ∙ append-nil text)

sum_first : (f : ℕ → ℕ) → f 0 ≡ 0 → 0 ≡ sum_below (0 + 1) f
sum_first f none = let zero_is = sum_zero f in let more = sum_more f 0 in omega (arith, none, zero_is, more)

pub totals_first : (t : Trace) (file : ℕ) (totals : Totals) → totals.lines ≡ 0 → totals.lines_hit ≡ 0 → totals.ways ≡ 0 → totals.ways_hit ≡ 0
    → AreTotals (sum_below (0 + 1) (lines_in t file)) (sum_below (0 + 1) (hit_in t file)) (sum_below (0 + 1) (ways_in t file)) (sum_below (0 + 1) (ways_hit_in t file)) totals
totals_first t file totals a b c d = record {
  lines_are = a ∙ sum_first (lines_in t file) refl;
  hit_are = b ∙ sum_first (hit_in t file) refl;
  ways_are = c ∙ sum_first (ways_in t file) refl;
  ways_hit_are = d ∙ sum_first (ways_hit_in t file) refl;
}

module _ (t : Trace) (file above : ℕ) (few : above < 4294967296) (found : nearest_below t.holding file above (slots_of t) ≡ None) where
  beyond : {A : Type 0} (none : A) (here : ℕ → A) (k : ℕ) → above + 1 ≤ k → k < 4294967296 → at_line t file none here k ≡ none
  beyond none here k low high = nothing t file none here k (next_of t file above None found k (omega (arith, low)))

  sum_last : (here : ℕ → ℕ) → sum_below (above + 1) (λ k. at_line t file 0 here k) ≡ sum_below 4294967296 (λ k. at_line t file 0 here k)
  sum_last here = sym (sum_passed_to (λ k. at_line t file 0 here k) (above + 1) 4294967296 (omega (arith, few)) (beyond 0 here))

  pub text_last : (before text : List ℕ) → text ≡ before ++ texts_below (above + 1) (records_in t file) → text ≡ before ++ texts_below 4294967296 (records_in t file)
  text_last before text was =
      was ∙ ap (λ (xs : List ℕ). before ++ xs) (sym (passed_to (records_in t file) (above + 1) 4294967296 (omega (arith, few)) (beyond [] (line_record t file))))

  pub totals_last : (totals : Totals)
      → AreTotals (sum_below (above + 1) (lines_in t file)) (sum_below (above + 1) (hit_in t file)) (sum_below (above + 1) (ways_in t file)) (sum_below (above + 1) (ways_hit_in t file)) totals
      → AreTotals (sum_below 4294967296 (lines_in t file)) (sum_below 4294967296 (hit_in t file)) (sum_below 4294967296 (ways_in t file)) (sum_below 4294967296 (ways_hit_in t file)) totals
  totals_last totals were = record {
    lines_are = were.lines_are ∙ sum_last (λ number. 1);
    hit_are = were.hit_are ∙ sum_last (λ number. positive (most_of t file number));
    ways_are = were.ways_are ∙ sum_last (λ number. sum_below (slots_of t) (ways_at t file number));
    ways_hit_are = were.ways_hit_are ∙ sum_last (λ number. sum_below (slots_of t) (ways_hit_at t file number));
  }
