-- Whose verdict a trace is of.
use Rattle.ebpf_verify.specs.declared.trace.Trace.{Trace}
use Rattle.ebpf_verify.specs.Subject.{Subject}

abbrev pub subject_of : Trace → Subject
subject_of trace = record { program = trace.flowed.now; decl = trace.decl; rows = trace.kinds.now }
