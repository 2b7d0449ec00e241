use Rattle.std.proofs.Common.{◌≡◌, ◌∙◌, ℤ, w16, to_z, of_z, Some, sym, ap, rules}
use Rattle.std.proofs.lemmas.Int.{to_z-of_z}
use Rattle.ebpf_insn.specs.Program.{insn_at}
use Rattle.ebpf_link.specs.Linking.{fetches}
use Rattle.ebpf_link.proofs.fetched.holds_after.Goals as goal

pub returns-in-None-clause-holds : goal.returns-in-None-clause-holds
returns-in-None-clause-holds c fine dst is =
    let at : insn_at c.args.trace.now.flowed.now c.args.slot ≡ Some c.in-Some.insn.now = search rules in
    let same : c.in-Some.insn.now ≡ fetches dst c.args.word = cc in
    let back : to_z w16 (of_z w16 c.args.word) ≡ c.args.word = to_z-of_z w16 c.args.word (search rules) in
    let found = c.fetched_by.ensures.some dst (same ∙ ap (λ (z : ℤ). fetches dst z) (sym back)) in
    let none = c.in-None.is in
    absurd (cc)
