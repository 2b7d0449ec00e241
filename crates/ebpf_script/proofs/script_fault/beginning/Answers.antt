use Rattle.std.proofs.Common.{sym, arith}
use Rattle.std.proofs.lemmas.List.{length-take-le}
use Rattle.ebpf_command.proofs.Known.{front_of_short}
use Rattle.ebpf_script.proofs.script_fault.beginning.Goals as goal

pub slice_bounds-result-end : goal.slice_bounds-result-end
slice_bounds-result-end c = sym (length-take-le 60 c.args.line.now (omega (arith, c.if-line-gt-SHOWN.true)))

pub returns-else-line-gt-SHOWN : goal.returns-else-line-gt-SHOWN
returns-else-line-gt-SHOWN c = sym (front_of_short 60 c.args.line.now c.if-line-gt-SHOWN.false)
