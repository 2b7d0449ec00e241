use Rattle.std.proofs.Common.{◌≡◌, ℕ, ◌+◌, ◌-◌, ◌^◌, ◌<◌, ap, sym, subst, ◌∙◌, arith}
use Rattle.std.specs.Int.{w64, leading_zeros}
use Rattle.ebpf_range.specs.Results.{up}
use Rattle.ebpf_range.proofs.RowLemmas.{up-reached, up-least}
use Rattle.ebpf_range.proofs.rows.up.Goals as goal

-- what is returned is the table's number
value : (c : goal.After-power_of_two) → c.power_of_two.result - 1 ≡ up c.args.a c.args.b
value c = ap (λ (n : ℕ). n - 1) c.power_of_two.ensures ∙ ap (λ (m : ℕ). 2 ^ (64 - leading_zeros w64 m) - 1) c.max.ensures

pub returns-clause-reached : goal.returns-clause-reached
returns-clause-reached c =
    subst (λ (r : ℕ). (n : ℕ) × (r + 1 ≡ 2 ^ n) × (c.args.a.hi < 2 ^ n) × (c.args.b.hi < 2 ^ n)) (sym (value c)) (up-reached c.args.a c.args.b (omega arith) (omega arith))

pub returns-clause-least : goal.returns-clause-least
returns-clause-least c = λ n h k. subst (λ (r : ℕ). r < 2 ^ n) (sym (value c)) (up-least c.args.a c.args.b n (omega arith) (omega arith) h k)
