use Rattle.ebpf_one.specs.LayOutLinked.{LaysOutWithData}
use Rattle.ebpf_one.specs.LayOutText.{LaysOut}
use Rattle.ebpf_one.proofs.AsHex.{input_as_hex, lay_out_alike}
use Rattle.ebpf_one.proofs.lay_out.lay_out.Goals as goal

pub returns-clause-as_hex : goal.returns-clause-as_hex
returns-clause-as_hex g c =
    let ask = c.args.ask.now in
    input_as_hex (LaysOutWithData ask) (LaysOut ask.format) (lay_out_alike ask.format) ask.input _ _ _ _ c.respond.ensures.response
