use Rattle.std.proofs.Common.{rules, refl, inr, subst}
use Rattle.ebpf_host_c.specs.WithData.{IsDataLoaded, IsUnloaded}
use Rattle.ebpf_host_c.proofs.Holding.{kept_as, not_done}
use Rattle.ebpf_host_c.proofs.with_data.load_data.Goals as goal

pub returns-in-Ok : goal.returns-in-Ok
returns-in-Ok c =
    let way = c.args.way in record {
      loaded = λ done. kept_as (IsDataLoaded way.loops way.context way.held c.args.file.now c.args.function.now) c.in-Ok.made c.keep.new.program.value
          (c.keep.ensures.kept done) c.in-Ok.ensures.loaded;
      refused = search rules;
      untold = λ _. (refl, refl);
      declaration = search rules;
      memory = λ _. tt;
      statuses = search rules;
      kept = search rules;
    }

pub returns-in-Err : goal.returns-in-Err
returns-in-Err c =
    let way = c.args.way in let told = c.refuse_data.ensures in record {
      loaded = λ done. absurd (not_done c.refuse_data.result told.statuses done);
      refused = λ e. record { why = c.in-Err.fault; is = c.in-Err.ensures.refused; reported_as = told.refused e };
      untold = told.untold;
      declaration = λ e. subst (IsUnloaded way.loops way.context way.held c.args.file.now c.args.function.now) (told.declaration e) c.in-Err.ensures.refused;
      memory = λ _. tt;
      statuses = inr told.statuses;
      kept = λ _. refl;
    }
