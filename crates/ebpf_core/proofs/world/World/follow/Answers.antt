use Rattle.std.proofs.Common.{◌≡◌, length, sym, ap, ◌∙◌, rules}
use Rattle.std.specs.Prelude.{slice_get}
use Rattle.std.specs.Vec.{vec_len}
use Rattle.ebpf_core.specs.Stepping.{start_code}
use Rattle.ebpf_core.proofs.Starting.{start_refused, start_legal}
use Rattle.ebpf_core.proofs.world.World.follow.Goals as goal

pub returns-in-Some-clause-refused : goal.returns-in-Some-clause-refused
returns-in-Some-clause-refused c = rw (c.in-Start.is, ← c.self.view_is, ← c.context.view_is) (λ w h.
    let program = slice_get c.self.inside.programs.now c.in-Start.program in
    let long : length c.context.inside.bytes.items ≡ vec_len c.context.inside.bytes = search rules in
    start_refused program c.context.inside.bytes.items w c.in-Some.code
    (ap (start_code program) (long ∙ sym c.len.ensures) ∙ sym c.start_fault.ensures ∙ c.in-Some.is))

pub returns-in_default-to_vec-clause-refused : goal.returns-in_default-to_vec-clause-refused
returns-in_default-to_vec-clause-refused c = rw (c.in-Start.is, ← c.self.view_is, ← c.context.view_is) (λ w h.
    let program = slice_get c.self.inside.programs.now c.in-Start.program in
    let long : length c.context.inside.bytes.items ≡ vec_len c.context.inside.bytes = search rules in
    start_legal program c.context.inside.bytes.items w (ap (start_code program) (long ∙ sym c.len.ensures) ∙ sym c.start_fault.ensures ∙ c.in_default.is))
