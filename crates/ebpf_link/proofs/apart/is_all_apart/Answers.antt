use Rattle.std.proofs.Common.{w16, Some, refl, subst, rules}
use Rattle.std.proofs.lemmas.Int.{to_z-of_z}
use Rattle.ebpf_insn.specs.declared.insn.Insn.{Insn}
use Rattle.ebpf_state.specs.Stack.{bytes_in}
use Rattle.ebpf_verify.specs.Entry.{entry_of}
use Rattle.ebpf_link.specs.Apart.{AllApart}
use Rattle.ebpf_link.proofs.apart.is_all_apart.Goals as goal

pub returns-in-Load-clause-touches : goal.returns-in-Load-clause-touches
returns-in-Load-clause-touches c found all =
    let known = entry_of c.args.trace.now.flowed.now c.args.slot in
    let here = subst (λ (i : Insn). AllApart (Some i) c.args.word known) c.in-Load.is all in
    (rw (to_z-of_z w16 c.in-Load.offset (search rules), to_z-of_z w16 c.args.word (search rules)) at (c.is_apart_in.ensures.touches found))
    (here c.in-Load.base (bytes_in c.in-Load.size) c.in-Load.offset (refl, refl, refl))

pub returns-in-Store-clause-touches : goal.returns-in-Store-clause-touches
returns-in-Store-clause-touches c found all =
    let known = entry_of c.args.trace.now.flowed.now c.args.slot in
    let here = subst (λ (i : Insn). AllApart (Some i) c.args.word known) c.in-Store.is all in
    (rw (to_z-of_z w16 c.in-Store.offset (search rules), to_z-of_z w16 c.args.word (search rules)) at (c.is_apart_in-in-Store.ensures.touches found))
    (here c.in-Store.base (bytes_in c.in-Store.size) c.in-Store.offset (refl, refl, refl))
