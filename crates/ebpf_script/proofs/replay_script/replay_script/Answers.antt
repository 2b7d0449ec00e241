use Rattle.std.proofs.Common.{rules}
use Rattle.ebpf_command.proofs.Written.{performs_through, response_of_shown}
use Rattle.ebpf_reader.specs.declared.script.Dialect.TheVariants.{Events}
use Rattle.ebpf_report.proofs.ScriptTextLemmas.{script_cuts}
use Rattle.ebpf_script.specs.ReplayText.{RespondsReplay, DoesReplay}
use Rattle.ebpf_script.proofs.replay_script.replay_script.Goals as goal

pub returns : goal.returns
returns g c =
    let P = RespondsReplay c.args.format in
    performs_through P _ _ _ _ _ _ _ c.respond.ensures (λ all response k.
    response_of_shown P (script_cuts c.args.format Events (DoesReplay c.args.format)) all response k.0 k.2 (let h = k.1 in search rules))
