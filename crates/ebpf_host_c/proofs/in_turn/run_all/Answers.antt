use Rattle.std.proofs.Common.{◌∙◌, sym, arith}
use Rattle.std.proofs.lemmas.Option.{slice_get_past}
use Rattle.ebpf_host_c.proofs.in_turn.run_all.Goals as goal

pub returns-in-Ok-run_each-clause-unmade : goal.returns-in-Ok-run_each-clause-unmade
returns-in-Ok-run_each-clause-unmade g c = λ k past.
    slice_get_past c.run_each.new.reports k past ∙ sym (slice_get_past c.args.reports.now k (omega (arith, past, c.run_each.auto.reports)))
