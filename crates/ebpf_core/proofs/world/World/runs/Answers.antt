use Rattle.std.proofs.Common.{rules, ◌≡◌, length, sym, ◌∙◌}
use Rattle.ebpf_core.proofs.world.World.runs.Goals as goal

pub returns : goal.returns
returns c =
    let len : c.len.result ≡ length c.self.inside.runs.items = search rules in
    rw (← c.self.view_is) (λ w h. len ∙ sym h.as_many)
