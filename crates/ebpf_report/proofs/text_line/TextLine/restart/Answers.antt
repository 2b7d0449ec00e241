use Rattle.std.proofs.Common.{◌≡◌, ℕ, List, [], ◌∷◌, drop, length, sym, subst, ap, ◌∙◌, arith}
use Rattle.std.specs.Str.{IsAscii}
use Rattle.std.specs.Prelude.{slice_set}
use Rattle.std.proofs.lemmas.List.{drop_all, drop-set}
use Rattle.std.proofs.lemmas.Str.Ascii.{IsAscii-nil, IsAscii-cons}
use Rattle.ebpf_report.proofs.text_line.TextLine.restart.Goals as goal

-- the last of 128 bytes
last : (bytes : List ℕ) → length bytes ≡ 128 → drop 127 (slice_set bytes 127 10) ≡ 10 ∷ []
last bytes len = drop-set bytes 127 10 (omega (arith, len)) ∙ ap (λ (rest : List ℕ). 10 ∷ rest) (drop_all 128 bytes (omega (arith, len)))

pub invariant_of-self : goal.invariant_of-self
invariant_of-self c = (omega arith, subst IsAscii (sym (last c.self.inside.bytes (omega arith))) (IsAscii-cons 10 [] (omega arith) IsAscii-nil))

pub returns : goal.returns
returns c = last c.self.inside.bytes (omega arith)
