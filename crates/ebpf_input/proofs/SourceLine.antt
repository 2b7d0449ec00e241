-- A line of C before what it holds for, and what is known of a function's lines.
use Rattle.std.proofs.Common.{◌≡◌, ℕ, List, ◌++◌, Option, ap, ◌∙◌, append_assoc, length, subst, sym, take}
use Rattle.std.proofs.Math.Seq.{take-append_seam}
use Rattle.std.specs.Option.{MatchOption}
use Rattle.ebpf_command.specs.declared.format.Format.{Format}
use Rattle.ebpf_object_file.specs.declared.function.Function.{Function}
use Rattle.ebpf_object_file.specs.declared.lines.Line.{Line}
use Rattle.ebpf_object_file.specs.declared.lines.Lines.{Lines}
use Rattle.ebpf_object_file.specs.Shown.{AreHolding}
use Rattle.ebpf_object_file.specs.Source.{AreLinesOf, HasNoLinesOf}
use Rattle.ebpf_input.specs.SourceLine.{heading}

-- a line of C and another line after a text
pub headed_row : (format : Format) (l : Lines) (before earlier now held : Option Line) (text headed written row : List ℕ) → before ≡ earlier → now ≡ held
    → headed ≡ text ++ heading format l before now → written ≡ headed ++ row → written ≡ text ++ (heading format l earlier held ++ row)
headed_row format l before earlier now held text headed written row same is first second =
    let here : headed ≡ text ++ heading format l earlier held =
    first ∙ (ap (λ (o : Option Line). text ++ heading format l o now) same ∙ ap (λ (o : Option Line). text ++ heading format l earlier o) is) in
    second ∙ (ap (λ (x : List ℕ). x ++ row) here ∙ append_assoc text (heading format l earlier held) row)

-- three texts after a text, the second of which is equal to what is wanted
pub third_after : (before one two new a b wanted c : List ℕ) → one ≡ before ++ a → two ≡ one ++ b → b ≡ wanted → new ≡ two ++ c
    → new ≡ before ++ (a ++ (wanted ++ c))
third_after before one two new a b wanted c first second same third =
    third ∙ (ap (λ (x : List ℕ). x ++ c) (second ∙ (ap (λ (x : List ℕ). x ++ b) first ∙ ap (λ (x : List ℕ). (before ++ a) ++ x) same))
    ∙ (append_assoc (before ++ a) wanted c ∙ append_assoc before a (wanted ++ c)))

-- what is known of a function's lines
abbrev pub LinesKnown : List ℕ → Function → Option Lines → Type 0
LinesKnown file f r = MatchOption r (HasNoLinesOf file f.place.section) (λ l. AreLinesOf file f.place.section l)

-- the lines that were written to the first n items hold, read as all n
pub held_in : (l : Lines) (from n : ℕ) (written rest now : List (Option Line)) → AreHolding l from written → length written ≡ n
    → now ≡ take n (written ++ rest) → AreHolding l from now
held_in l from n written rest now are few read =
    let cut : take n (written ++ rest) ≡ written = subst (λ (m : ℕ). take m (written ++ rest) ≡ written) few (take-append_seam written rest) in
    subst (λ (xs : List (Option Line)). AreHolding l from xs) (sym (read ∙ cut)) are
