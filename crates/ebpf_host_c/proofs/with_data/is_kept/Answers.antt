use Rattle.std.proofs.Common.{◌≡◌, rules, false, ℤ, IfOk, subst, w16}
use Rattle.std.proofs.lemmas.Int.{to_z-of_z}
use Rattle.ebpf_verify.specs.Subject.{Subject}
use Rattle.ebpf_link.specs.Right.{IsShown}
use Rattle.ebpf_host_c.proofs.with_data.is_kept.Goals as goal

pub returns-in-Unrolled-clause-unshown : goal.returns-in-Unrolled-clause-unshown
returns-in-Unrolled-clause-unshown c =
    let of_word = subst (λ (w : ℤ). IfOk c.is_right.result (λ kept. kept ≡ false → IsShown c.verified.result.now.program w → ⊥))
    (to_z-of_z w16 c.args.word (search rules)) c.is_right.ensures.unshown in
    let of_made = subst (λ (s : Subject). IfOk c.is_right.result (λ kept. kept ≡ false → IsShown s.program c.args.word → ⊥)) c.verified.ensures of_word in
    rw c.in-Unrolled.is of_made
