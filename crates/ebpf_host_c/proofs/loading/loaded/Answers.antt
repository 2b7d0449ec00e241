use Rattle.ebpf_host_c.proofs.loading.loaded.Goals as goal

pub returns-in-Unrolled-clause-loaded : goal.returns-in-Unrolled-clause-loaded
returns-in-Unrolled-clause-loaded c = rw c.in-Unrolled.is c.load_unrolled.ensures.loaded
