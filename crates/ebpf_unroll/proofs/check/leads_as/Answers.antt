use Rattle.std.proofs.Common.{◌≡◌, rules, Some}
use Rattle.ebpf_insn.specs.Program.{insn_at}
use Rattle.ebpf_layout.specs.Layout.{copied_in}
use Rattle.ebpf_unroll.specs.Unrolling.{JumpsAs, FallsAs}
use Rattle.ebpf_unroll.proofs.Leading.{leads_from}
use Rattle.ebpf_unroll.proofs.check.leads_as.Goals as goal

pub returns : goal.returns
returns c same =
    let here : insn_at c.args.old.now c.args.slot ≡ Some c.in-Some.insn.now = search rules in
    let there : insn_at c.args.new.now c.args.at ≡ Some c.in-Some-at.copy.now = search rules in
    let jumps : JumpsAs c.args.new.now (copied_in c.args.of.now) c.in-Some-at.copy.now c.args.at c.in-Some.insn.now c.args.slot = search rules in
    let falls : FallsAs c.args.new.now (copied_in c.args.of.now) c.in-Some-at.copy.now c.args.at c.in-Some.insn.now c.args.slot = search rules in
    leads_from c.args.old.now c.args.new.now (copied_in c.args.of.now) c.args.at c.args.slot c.in-Some.insn.now c.in-Some-at.copy.now here there jumps falls
