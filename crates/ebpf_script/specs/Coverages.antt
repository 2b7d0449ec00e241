-- Which answers are a tracefile.
use Rattle.std.specs.Prelude.{Bool, true, false}
use Rattle.ebpf_script.specs.declared.run_ask.Coverage.{Coverage}
use Rattle.ebpf_script.specs.declared.run_ask.Coverage.TheVariants.{Tracefile}

abbrev pub is_tracefile : Coverage → Bool
is_tracefile Tracefile = true
is_tracefile _ = false
