-- `ebpf_program_held` says what its callee says of the handle.
use Rattle.ebpf_host_c.specs.About.{IsHeldOf}
use Rattle.ebpf_host_c.specs.contracts.about.held_shown.Key.{symbol as shown}
use Rattle.ebpf_host_c.specs.contracts.about.ebpf_program_held.Key.{name}
use Rattle.ebpf_host_c.proofs.Viewing.{viewed}
use Rattle.ebpf_host_c.proofs.about.held_shown.Met.{met}
use Rattle.ebpf_host_c.proofs.about.ebpf_program_held.Statement.{statement}
use Rattle.ebpf_host_c.proofs.about.ebpf_program_held.Code as code

pub ebpf_program_held_spec : {M : Type 1} → statement M
ebpf_program_held_spec 𝓤 𝓛 𝓜 𝓡 wired =
    viewed 𝓤 𝓛 𝓜 𝓡 IsHeldOf shown name (met 𝓤 𝓛 𝓜 𝓡 (code.calls-ebpf_host_c::about::held_shown 𝓡.env wired)) (code.unfolded 𝓤 𝓛.H 𝓜 𝓡 wired)
