use Rattle.std.proofs.Common.{nat_le, refl, arith}
use Rattle.std.proofs.lemmas.Bool.Decides.{nat_tests}
use Rattle.ebpf_range.proofs.Spans.{two_spans}
use Rattle.ebpf_range.proofs.branches.after_gt.Goals as goal

pub returns : goal.returns
returns c = two_spans (nat_le c.args.a.hi c.args.b.lo) _ _ _ _ _ _ (grind (arith, nat_tests)) c.max.ensures refl refl c.min.ensures
