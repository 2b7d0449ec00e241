use Rattle.std.proofs.Common.{ℕ, ◌≡◌, ◌+◌, ◌-◌, ◌++◌, ◌∙◌, arith, ap, sym, subst, length, drop, take}
use Rattle.std.specs.Str.{IsAscii}
use Rattle.std.proofs.lemmas.List.{drop-drop, drop_at, length-take}
use Rattle.std.proofs.lemmas.Str.{IsAscii-append}
use Rattle.ebpf_report.proofs.text_line.TextLine.words.Goals as goal

pub invariant_of-self : goal.invariant_of-self
invariant_of-self c =
    let s = c.self.inside in
    let a = s.start - length c.args.words.now in
    let k = s.start - a in
    let written = c.copy_from_slice.new.self in
    let sum : a + k ≡ s.start = omega arith in
    let rest = drop-drop k a s.bytes ∙ ap (λ (n : ℕ). drop n s.bytes) sum in
    let both : IsAscii (written ++ drop k (drop a s.bytes)) =
    IsAscii-append _ _ (subst IsAscii (sym c.copy_from_slice.ensures.after) c.requires.ascii) (subst IsAscii (sym rest) c.self.invariant.1) in
    let before : length (take a s.bytes) ≡ a = omega (arith, length-take a s.bytes, c.self.invariant.0) in
    (omega arith, subst IsAscii (sym (drop_at (take a s.bytes) _ a before)) both)
