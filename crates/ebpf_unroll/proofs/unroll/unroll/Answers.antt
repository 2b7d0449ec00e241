use Rattle.std.proofs.Common.{rules}
use Rattle.ebpf_layout.specs.Layout.{copied_in}
use Rattle.ebpf_verify.specs.Verdict.{IsAccepted}
use Rattle.ebpf_unroll.specs.Unrolling.{IsUnrolled}
use Rattle.ebpf_unroll.specs.Written.{IsWritten}
use Rattle.ebpf_unroll.proofs.Endings.{ends_as}
use Rattle.ebpf_unroll.proofs.Writing.{are_copies}
use Rattle.ebpf_unroll.proofs.unroll.unroll.Goals as goal

pub is_unrolled-requires-clause-same : goal.is_unrolled-requires-clause-same
is_unrolled-requires-clause-same c =
    let w = c.in-Some.writer in
    let written : IsWritten c.args.program.now w.code.items w.of.items w.count = search rules in
    rw (c.deref-5.ensures.value, c.reverse-2.ensures.items, c.new-new.ensures, c.reverse.ensures.items)
    (are_copies c.args.program.now w.code.items w.of.items w.count written)

pub returns-in-Some-2-clause-ends : goal.returns-in-Some-2-clause-ends
returns-in-Some-2-clause-ends c context told long fits =
    let s = c.in-Some-2.verified in
    let of = copied_in c.deref-5.result.now in
    let unrolled : IsUnrolled c.args.program.now s.program of = search rules in
    let accepted : IsAccepted s = search rules in
    ends_as c.args.program.now s of unrolled context told accepted long fits
