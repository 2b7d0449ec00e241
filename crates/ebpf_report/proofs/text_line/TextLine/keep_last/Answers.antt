use Rattle.std.proofs.Common.{◌≡◌, ◌-◌, ◌+◌, ◌∙◌, ℕ, List, drop, length, arith, ap, sym, subst, length-drop}
use Rattle.std.specs.Str.{IsAscii}
use Rattle.std.proofs.lemmas.List.{drop-drop}
use Rattle.std.proofs.lemmas.Str.{IsAscii-drop}
use Rattle.ebpf_report.proofs.text_line.TextLine.keep_last.Goals as goal

-- what is left after k more of what is written
after : (k start : ℕ) (bytes now : List ℕ) → drop start bytes ≡ now → drop (start + k) bytes ≡ drop k now
after k start bytes now is = sym (drop-drop k start bytes) ∙ ap (λ (bs : List ℕ). drop k bs) is

pub invariant_of-self : goal.invariant_of-self
invariant_of-self c =
    let s = c.self.inside in
    let k = c.len.result - c.args.n in
    let few = length-drop s.start s.bytes in
    let same = ap length c.self.view_is in
    let told = c.len.ensures in
    let ascii = IsAscii-drop c.args.self.now k (subst IsAscii c.self.view_is c.self.invariant.1) in
    (omega (arith, few, same, told), subst IsAscii (sym (after k s.start s.bytes c.args.self.now c.self.view_is)) ascii)

pub returns : goal.returns
returns c =
    let s = c.self.inside in
    after (c.len.result - c.args.n) s.start s.bytes c.args.self.now c.self.view_is ∙ ap (λ (m : ℕ). drop (m - c.args.n) c.args.self.now) c.len.ensures
