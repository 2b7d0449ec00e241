-- `ebpf_program_context` says what its callee says of the handle.
use Rattle.ebpf_host_c.specs.About.{IsContextOf}
use Rattle.ebpf_host_c.specs.contracts.about.context_shown.Key.{symbol as shown}
use Rattle.ebpf_host_c.specs.contracts.about.ebpf_program_context.Key.{name}
use Rattle.ebpf_host_c.proofs.Viewing.{viewed}
use Rattle.ebpf_host_c.proofs.about.context_shown.Met.{met}
use Rattle.ebpf_host_c.proofs.about.ebpf_program_context.Statement.{statement}
use Rattle.ebpf_host_c.proofs.about.ebpf_program_context.Code as code

pub ebpf_program_context_spec : {M : Type 1} → statement M
ebpf_program_context_spec 𝓤 𝓛 𝓜 𝓡 wired =
    viewed 𝓤 𝓛 𝓜 𝓡 IsContextOf shown name (met 𝓤 𝓛 𝓜 𝓡 (code.calls-ebpf_host_c::about::context_shown 𝓡.env wired)) (code.unfolded 𝓤 𝓛.H 𝓜 𝓡 wired)
