use Rattle.std.proofs.Common.{Option, sym, subst, arith}
use Rattle.ebpf_range.specs.declared.range.Range.{Range}
use Rattle.ebpf_range.proofs.RefinementLemmas.{Keeps, refinement-keeps}
use Rattle.ebpf_range.proofs.branches.refine.Goals as goal

pub returns-clause-keeps : goal.returns-clause-keeps
returns-clause-keeps c = λ x y h k e.
    subst (λ (r : Option (Range × Range)). Keeps x y r) (sym c.refinement.ensures) (refinement-keeps c.args.cond c.args.width c.args.a c.args.b c.args.taken x y (omega arith) (omega arith) h k e)
