-- The next line of a file: its number, and that there is none between.
use Rattle.std.specs.Prelude.{if◌then◌else◌}
use Rattle.std.proofs.Common.{◌≡◌, ℕ, zero, suc, ◌<◌, ◌≤◌, ◌==◌, ◌&&◌, Bool, true, false, nat_lt, List, Option, Some, None, refl, ◌∙◌, arith, rules}
use Rattle.std.proofs.lemmas.Bool.Decides.{nat_tests}
use Rattle.std.proofs.lemmas.Grind.{common_steps}
use Rattle.ebpf_object_file.specs.declared.lines.Line.{Line}
use Rattle.ebpf_lines.specs.LineCounts.{held, is_at, or_this, line_below}
use Rattle.ebpf_lines.specs.Nearest.{nearer, nearest_below}

-- of the lines by their numbers, this is the one of the least number above another, or there is none
abbrev pub IsNext : (above : ℕ) → (ℕ → Option Line) → Option Line → Type 0
IsNext above line None = (number : ℕ) → above < number → line number ≡ None
IsNext above line (Some n) =
    (above < n.line) × (line n.line ≡ Some n) × ((number : ℕ) → above < number → number < n.line → line number ≡ None)

no_other : (file number : ℕ) (x : Option Line) → or_this file number x None ≡ x
no_other file number None = refl
no_other file number (Some n) = refl

off : (file number : ℕ) (n : Line) (x : Option Line) → x ≡ None → is_at file number (Some n) ≡ false → or_this file number x (Some n) ≡ None
off file number n (Some y) none other = absurd (cc)
off file number n None none other = grind (arith, common_steps)

on : (file number : ℕ) (n : Line) (x : Option Line) → x ≡ None → is_at file number (Some n) ≡ true → or_this file number x (Some n) ≡ Some n
on file number n (Some y) none here = absurd (cc)
on file number n None none here = grind (arith, common_steps)

-- another number, or one that isn't looked for
not_at : (file above number : ℕ) (n : Line) → ((n.file == file && nat_lt above n.line) ≡ false) → above < number → is_at file number (Some n) ≡ false
not_at file above number n b lt = search (rules, nat_tests, arith)

-- a line that is nearer is the next
taken : (file above : ℕ) (n : Line) (line : ℕ → Option Line) → n.file ≡ file → above < n.line
    → ((number : ℕ) → above < number → number ≤ n.line → line number ≡ None) → IsNext above (λ number. or_this file number (line number) (Some n)) (Some n)
taken file above n line same lt none = (
  lt,
  on file n.line n (line n.line) (none n.line lt (omega arith)) (search (rules, nat_tests, same)),
  λ number low high. off file number n (line number) (none number low (omega (arith, high))) (search (rules, nat_tests, arith)),
)

same_file : (file above : ℕ) (n : Line) (x : Bool) → (n.file == file && nat_lt above n.line && x) ≡ true → n.file ≡ file
same_file file above n x is = search (rules, nat_tests)

is_above : (file above : ℕ) (n : Line) (x : Bool) → (n.file == file && nat_lt above n.line && x) ≡ true → above < n.line
is_above file above n x is = search (rules, nat_tests)

is_lower : (file above : ℕ) (n b : Line) → (n.file == file && nat_lt above n.line && nat_lt n.line b.line) ≡ true → n.line < b.line
is_lower file above n b is = search (rules, nat_tests)

not_nearer : (x : Bool) → (x && true) ≡ false → x ≡ false
not_nearer true is = absurd (cc)
not_nearer false is = refl

not_below : (file above number : ℕ) (n b : Line) → (n.file == file && nat_lt above n.line && nat_lt n.line b.line) ≡ false → above < number → number < b.line
    → is_at file number (Some n) ≡ false
not_below file above number n b is low high = search (rules, nat_tests, arith)

kept : (file number : ℕ) (b n : Line) (x : Option Line) → x ≡ Some b → or_this file number x (Some n) ≡ Some b
kept file number b n None is = absurd (cc)
kept file number b n (Some y) is = is

next_more : (file above : ℕ) (line : ℕ → Option Line) (best here : Option Line) → IsNext above line best
    → IsNext above (λ number. or_this file number (line number) here) (nearer file above best here)
next_more file above line None None h = λ number lt. no_other file number (line number) ∙ h number lt
next_more file above line (Some b) None h = (h.0, no_other file b.line (line b.line) ∙ h.1, λ number low high. no_other file number (line number) ∙ h.2 number low high)
next_more file above line None (Some n) h = by (n.file == file && nat_lt above n.line && true) refl where
  by : (b : Bool) → (n.file == file && nat_lt above n.line && true) ≡ b
      → IsNext above (λ number. or_this file number (line number) (Some n)) (if b then Some n else None)
  by true is = taken file above n line (same_file file above n true is) (is_above file above n true is) (λ number low high. h number low)
  by false is = λ number low. off file number n (line number) (h number low) (not_at file above number n (not_nearer _ is) low)
next_more file above line (Some b) (Some n) h = by (n.file == file && nat_lt above n.line && nat_lt n.line b.line) refl where
  by : (x : Bool) → (n.file == file && nat_lt above n.line && nat_lt n.line b.line) ≡ x
      → IsNext above (λ number. or_this file number (line number) (Some n)) (if x then Some n else Some b)
  by true is = taken file above n line (same_file file above n (nat_lt n.line b.line) is) (is_above file above n (nat_lt n.line b.line) is)
      (λ number low high. h.2 number low (omega (arith, high, is_lower file above n b is)))
  by false is = (
    h.0,
    kept file b.line b n (line b.line) h.1,
    λ number low high. off file number n (line number) (h.2 number low high) (not_below file above number n b is low high),
  )

pub is_next : (holding : List (Option Line)) (file above n : ℕ) → IsNext above (λ number. line_below holding file number n) (nearest_below holding file above n)
unfolding nearest_below line_below
is_next holding file above zero = λ number lt. refl
is_next holding file above (suc n) = next_more file above (λ number. line_below holding file number n) (nearest_below holding file above n) (held holding n) (is_next holding file above n)
