use Rattle.std.proofs.Common.{rules}
use Rattle.ebpf_command.proofs.Written.{performs_through, response_of_shown}
use Rattle.ebpf_script.specs.CheckText.{RespondsCheck}
use Rattle.ebpf_script.proofs.CheckTextLemmas.{check_cuts}
use Rattle.ebpf_script.proofs.check_script.check_script.Goals as goal

pub returns : goal.returns
returns g c =
    let P = RespondsCheck c.args.explains c.args.format in
    performs_through P _ _ _ _ _ _ _ c.respond.ensures (λ all response k.
    response_of_shown P (check_cuts c.args.explains c.args.format) all response k.0 k.2 (let h = k.1 in search rules))
