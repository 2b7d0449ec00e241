use Rattle.std.proofs.Common.{◌≡◌, ap, ◌∙◌, rules}
use Rattle.std.specs.Option.{IfSome}
use Rattle.std.proofs.lemmas.Option.{IfSome_then}
use Rattle.ebpf_machine.specs.Kinds.{known_kinds}
use Rattle.ebpf_machine.specs.World.{image_at}
use Rattle.worker_pool.proofs.each_kind.Stocks.take.Goals as goal

pub returns-in-Block-clause-image : goal.returns-in-Block-clause-image
returns-in-Block-clause-image g c =
    let image : IfSome c.take-in-Block.result (λ o. o.bytes.value.items ≡ image_at known_kinds c.args.kind) =
    IfSome_then c.take-in-Block.result c.take-in-Block.ensures.image (λ x e. e ∙ ap (image_at known_kinds) c.in-Block.ensures) in
    search (rules, image)
