use Rattle.std.proofs.Common.{◌≡◌, ◌<◌, ap₂, sym, subst, ◌∙◌, arith}
use Rattle.ebpf_insn.specs.Arithmetic.{modulus, result_at}
use Rattle.ebpf_range.specs.declared.range.Range.{Range}
use Rattle.ebpf_range.specs.Interval.{IsWithin}
use Rattle.ebpf_range.specs.Results.{row_or_constant, result_range}
use Rattle.ebpf_range.proofs.ResultLemmas.{result-sound, row_or_constant-below}
use Rattle.ebpf_range.proofs.results.alu.Goals as goal

value : (c : goal.After-row_or_constant) → c.row_or_constant.result ≡ result_range c.args.op c.args.width c.args.a c.args.b
value c = c.row_or_constant.ensures ∙ ap₂ (row_or_constant c.args.op c.args.width) c.low_at.ensures.value c.low_at-2.ensures.value

pub returns-clause-holds : goal.returns-clause-holds
returns-clause-holds c = λ x y h k. subst (IsWithin (result_at c.args.op c.args.width x y)) (sym (value c)) (result-sound c.args.op c.args.width c.args.a c.args.b x y (omega arith) (omega arith) h k)

pub returns-clause-below : goal.returns-clause-below
returns-clause-below c =
    subst (λ (r : Range). r.hi < modulus c.args.width) (sym c.row_or_constant.ensures)
    (row_or_constant-below c.args.op c.args.width c.low_at.result c.low_at-2.result c.low_at.ensures.below c.low_at-2.ensures.below)
