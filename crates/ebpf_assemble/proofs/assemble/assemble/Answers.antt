use Rattle.std.proofs.Common.{rules}
use Rattle.ebpf_command.proofs.Written.{performs_through, response_of_shown}
use Rattle.ebpf_assemble.specs.AssembleText.{Assembles}
use Rattle.ebpf_assemble.proofs.Assembling.{assemble_cuts, writes_slots, writes_listed}
use Rattle.ebpf_assemble.proofs.assemble.assemble.Goals as goal

pub returns-clause-done : goal.returns-clause-done
returns-clause-done g c = performs_through Assembles _ _ _ _ _ _ _ c.respond.ensures
    (λ all response k. response_of_shown Assembles assemble_cuts all response k.0 k.2 (let h = k.1 in search rules))

pub returns-clause-only : goal.returns-clause-only
returns-clause-only g c text p is = let done = returns-clause-done g c in writes_slots text p _ _ _ _ is done.response

pub returns-clause-back : goal.returns-clause-back
returns-clause-back g c p formed = let done = returns-clause-done g c in writes_listed p _ _ _ _ formed done.response
