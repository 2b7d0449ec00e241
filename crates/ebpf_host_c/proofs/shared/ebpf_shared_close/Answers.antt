use Rattle.ebpf_host_c.proofs.shared.ebpf_shared_close.Goals as goal

pub returns-clause-totals : goal.returns-clause-totals
returns-clause-totals c = λ done. let is = c.in-Some-close_in_place.ensures in c.all_told.ensures.told is.0 is.1
