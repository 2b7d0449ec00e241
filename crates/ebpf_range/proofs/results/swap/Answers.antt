use Rattle.std.proofs.Common.{◌<◌, ◌^◌, sym, subst}
use Rattle.ebpf_insn.specs.Arithmetic.{swapped_bits, swap_of}
use Rattle.ebpf_range.specs.declared.range.Range.{Range}
use Rattle.ebpf_range.specs.Interval.{IsWithin}
use Rattle.ebpf_range.proofs.ResultLemmas.{swap_range-below, swap-sound}
use Rattle.ebpf_range.proofs.results.swap.Goals as goal

pub returns-clause-below : goal.returns-clause-below
returns-clause-below c =
    subst (λ (r : Range). r.hi < 2 ^ swapped_bits c.args.bits) (sym c.swap_or_any.ensures) (swap_range-below c.args.order c.args.bits c.args.a)

pub returns-clause-holds : goal.returns-clause-holds
returns-clause-holds c =
    λ n h. subst (IsWithin (swap_of c.args.order c.args.bits n)) (sym c.swap_or_any.ensures) (swap-sound c.args.order c.args.bits c.args.a n h)
