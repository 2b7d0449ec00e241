use Rattle.std.proofs.Common.{◌≡◌, ℤ, w16, to_z, of_z, sym, subst, rules}
use Rattle.std.proofs.lemmas.Int.{to_z-of_z}
use Rattle.ebpf_link.specs.Pointing.{HoldsAfter}
use Rattle.ebpf_link.specs.Apart.{ApartAt}
use Rattle.ebpf_link.proofs.right.is_shown_at.Goals as goal

pub returns-then-holds_after-clause-shown : goal.returns-then-holds_after-clause-shown
returns-then-holds_after-clause-shown c found =
    let q = c.args.trace.now.flowed.now in
    let back : to_z w16 (of_z w16 c.args.word) ≡ c.args.word = to_z-of_z w16 c.args.word (search rules) in
    record {
      holds = subst (λ (z : ℤ). HoldsAfter q z c.args.slot) back (c.holds_after.ensures.holds c.if-holds_after.true);
      apart = subst (λ (z : ℤ). ApartAt q z c.args.slot) back (c.is_apart_at.ensures.apart found);
    }

pub returns-then-holds_after-clause-unshown : goal.returns-then-holds_after-clause-unshown
returns-then-holds_after-clause-unshown c found shown =
    let back : to_z w16 (of_z w16 c.args.word) ≡ c.args.word = to_z-of_z w16 c.args.word (search rules) in
    c.is_apart_at.ensures.touches found (subst (λ (z : ℤ). ApartAt c.args.trace.now.flowed.now z c.args.slot) (sym back) shown.apart)
