use Rattle.std.proofs.Common.{w16, w64, sym, subst, rules}
use Rattle.std.specs.Prelude.{◌+ℤ◌}
use Rattle.std.proofs.lemmas.Int.{to_z-of_z}
use Rattle.ebpf_state.specs.Stack.{bytes_in}
use Rattle.ebpf_link.specs.Apart.{IsApartBy}
use Rattle.ebpf_link.proofs.apart.is_apart_by.Goals as goal

pub returns-else-k-gt-FAR-clause-apart : goal.returns-else-k-gt-FAR-clause-apart
returns-else-k-gt-FAR-clause-apart c found =
    let k = c.in-Stk.k in
    let o = c.args.offset in
    let w = c.args.word in
    subst (IsApartBy (bytes_in c.args.size) o w) (sym c.in-Stk.is)
    (rw (
      to_z-of_z w16 o (search rules),
      to_z-of_z w16 w (search rules),
      to_z-of_z w64 k (search rules),
      to_z-of_z w64 o (search rules),
      to_z-of_z w64 (k +ℤ o) (search rules),
    )
    at (c.is_apart.ensures.apart found))

pub returns-else-k-gt-FAR-clause-touches : goal.returns-else-k-gt-FAR-clause-touches
returns-else-k-gt-FAR-clause-touches c found by =
    let k = c.in-Stk.k in
    let o = c.args.offset in
    let w = c.args.word in
    (rw (
      to_z-of_z w16 o (search rules),
      to_z-of_z w16 w (search rules),
      to_z-of_z w64 k (search rules),
      to_z-of_z w64 o (search rules),
      to_z-of_z w64 (k +ℤ o) (search rules),
    )
    at (c.is_apart.ensures.touches found)) (subst (IsApartBy (bytes_in c.args.size) o w) c.in-Stk.is by)
