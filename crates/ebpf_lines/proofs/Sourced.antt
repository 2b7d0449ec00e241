-- The lines of the function that was found.
use Rattle.std.proofs.Common.{◌≡◌, ◌/◌, ℕ, List, ◌++◌, length, take, Option, Some, None, inr, sym, ◌∙◌, subst}
use Rattle.std.proofs.Math.Seq.{take-append_seam}
use Rattle.std.specs.Prelude.{MatchOption}
use Rattle.ebpf_object_file.specs.declared.outside.Place.{Place}
use Rattle.ebpf_object_file.specs.Coded.{has_code, place_of}
use Rattle.ebpf_object_file.specs.File.{name_limit}
use Rattle.ebpf_object_file.specs.First.{IsFirst}
use Rattle.ebpf_object_file.specs.Shown.{AreHolding}
use Rattle.ebpf_object_file.specs.Symbol.{symbol_of}
use Rattle.ebpf_object_file.specs.Text.{text_at}
use Rattle.ebpf_object_file.specs.declared.lines.Line.{Line}
use Rattle.ebpf_object_file.specs.declared.lines.Lines.{Lines}
use Rattle.ebpf_lines.specs.declared.source.ObjectFile.{ObjectFile}
use Rattle.ebpf_lines.specs.declared.source.Source.{Source}
use Rattle.ebpf_lines.specs.Sources.{AreLinesAt, HasNoLinesAt, IsSourceOf}

pub sourced : (o : ObjectFile) (code name : List ℕ) (number : ℕ) (p : Place) → IsFirst (has_code o.functions code) (length o.functions.symbols.now / 24) number
    → p ≡ place_of (symbol_of o.functions.symbols.now number) → name ≡ text_at o.functions.strings.now (symbol_of o.functions.symbols.now number).name name_limit
    → (r : Option Source) → MatchOption r (HasNoLinesAt o.file.now p) (λ s. (s.function.bytes.now ≡ name) × AreLinesAt o.file.now (length code / 8) p s)
    → IsSourceOf o code r
sourced o code name number p first at is None none = inr (p, name, record { number = number; first = first; at = at; name_is = is }, none)
sourced o code name number p first at is (Some s) are = (p, record { number = number; first = first; at = at; name_is = are.0 ∙ is }, are.1)

-- the places of a vector that was written whole
pub held_in : (l : Lines) (from n : ℕ) (written rest now : List (Option Line)) → AreHolding l from written → length written ≡ n
    → now ≡ take n (written ++ rest) → AreHolding l from now
held_in l from n written rest now are few read =
    let cut : take n (written ++ rest) ≡ written = subst (λ (m : ℕ). take m (written ++ rest) ≡ written) few (take-append_seam written rest) in
    subst (λ (xs : List (Option Line)). AreHolding l from xs) (sym (read ∙ cut)) are
