use Rattle.std.proofs.Common.{◌≡◌, w16, Option, Some, subst, rules}
use Rattle.std.proofs.lemmas.Int.{to_z-of_z}
use Rattle.ebpf_insn.specs.declared.insn.Insn.{Insn}
use Rattle.ebpf_insn.specs.Program.{insn_at}
use Rattle.ebpf_verify.specs.Entry.{entry_of}
use Rattle.ebpf_link.specs.Apart.{AllApart, IsOfWord}
use Rattle.ebpf_link.proofs.apart.is_apart_at.Goals as goal

pub returns-else-is_of_word-clause-touches : goal.returns-else-is_of_word-clause-touches
returns-else-is_of_word-clause-touches c found apart =
    let q = c.args.trace.now.flowed.now in
    let w = c.args.word in
    let here : insn_at q c.args.slot ≡ Some c.in-Some.insn.now = search rules in
    let all = subst (λ (o : Option Insn). (IsOfWord w o → ⊥) → AllApart o w (entry_of q c.args.slot)) here apart in
    (rw (to_z-of_z w16 w (search rules)) at (c.is_all_apart.ensures.touches found))
    (all (rw (to_z-of_z w16 w (search rules)) at (c.is_of_word.ensures.other c.if-is_of_word.false)))
