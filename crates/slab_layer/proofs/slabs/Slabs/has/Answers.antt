use Rattle.std.proofs.Common.{◌≡◌, ◌<◌, ◌↔◌, IsTrue, length, subst, vec_len, arith}
use Rattle.slab_layer.specs.Slots.{Pages, Has}
use Rattle.slab_layer.proofs.Pages.{has_here}
use Rattle.slab_layer.proofs.slabs.Slabs.has.Goals as goal

pub returns-then-at-len : goal.returns-then-at-len
returns-then-at-len g c =
    let xs = c.self.inside.slabs.items in
    let len : vec_len c.self.inside.slabs ≡ length xs = c.self.inside.slabs.ok.0 in
    let within : c.args.page < length xs = omega arith in
    let H : Pages → Type 0 = λ v. IsTrue c.is_had.result ↔ Has v c.args.page in
    subst H c.self.view_is (has_here xs c.args.page c.index.result.now c.is_had.result within c.index.ensures c.is_had.ensures)
