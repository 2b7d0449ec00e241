-- `ebpf_program_slots` says what its callee says of the handle.
use Rattle.ebpf_host_c.specs.About.{AreSlotsOf}
use Rattle.ebpf_host_c.specs.contracts.about.slots_shown.Key.{symbol as shown}
use Rattle.ebpf_host_c.specs.contracts.about.ebpf_program_slots.Key.{name}
use Rattle.ebpf_host_c.proofs.Viewing.{viewed}
use Rattle.ebpf_host_c.proofs.about.slots_shown.Met.{met}
use Rattle.ebpf_host_c.proofs.about.ebpf_program_slots.Statement.{statement}
use Rattle.ebpf_host_c.proofs.about.ebpf_program_slots.Code as code

pub ebpf_program_slots_spec : {M : Type 1} → statement M
ebpf_program_slots_spec 𝓤 𝓛 𝓜 𝓡 wired =
    viewed 𝓤 𝓛 𝓜 𝓡 AreSlotsOf shown name (met 𝓤 𝓛 𝓜 𝓡 (code.calls-ebpf_host_c::about::slots_shown 𝓡.env wired)) (code.unfolded 𝓤 𝓛.H 𝓜 𝓡 wired)
