use Rattle.std.proofs.Common.{rules, sym}
use Rattle.ebpf_insn.proofs.ProgramLemmas.{defined_at}
use Rattle.ebpf_insn.specs.Encoding.{IsDefined}
use Rattle.ebpf_unroll.proofs.copies.write_copy.Goals as goal

pub push-requires-clause-defined : goal.push-requires-clause-defined
push-requires-clause-defined c =
    let insn = c.in-Some.insn.now in
    let defined : IsDefined insn = defined_at c.args.old.now c.args.slot insn c.slots-slots.ensures.formed.defined (sym c.in-Some.ensures) in
    search rules
