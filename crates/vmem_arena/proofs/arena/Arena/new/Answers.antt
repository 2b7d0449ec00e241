use Rattle.std.proofs.Common.{◌≡◌, ◌<◌, ◌≤◌, ◌/◌, List, [], length, refl, sym, ap, subst, ◌∙◌, arith}
use Rattle.vmem_arena.specs.declared.segment.Tag.{Tag}
use Rattle.vmem_arena.specs.Segments.{outs, IsTable, whole}
use Rattle.vmem_arena.specs.Classes.{IsListed}
use Rattle.vmem_arena.proofs.Listing.{in_class_zero}
use Rattle.vmem_arena.proofs.Steps.{whole_table, whole_same, length-whole, outs-whole}
use Rattle.vmem_arena.proofs.arena.Arena.new.Goals as goal

pub invariant_of-result : goal.invariant_of-result
invariant_of-result c =
    let pages = c.args.pages in
    let is : c.in-Ok.table ≡ whole pages = c.in-Ok.ensures in
    let some : 0 < pages = omega arith in
    let P : List Tag → Type 0 = λ ts. IsTable ts × IsListed c.insert.new.self ts × (length ts ≤ 256) in
    subst P (sym is) (whole_table pages some, c.insert.ensures [] (whole pages) (λ i. c.new-classes.ensures i ∙ sym (in_class_zero (i / 256))) refl refl (whole_same pages), omega (arith, length-whole pages some))

pub returns-clause-all_free : goal.returns-clause-all_free
returns-clause-all_free c =
    let pages = c.args.pages in
    let is : c.in-Ok.table ≡ whole pages = c.in-Ok.ensures in
    (ap length is ∙ length-whole pages (omega arith), ap (outs 0) is ∙ outs-whole pages)
