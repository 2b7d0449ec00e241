use Rattle.std.proofs.Common.{rules, refl, subst}
use Rattle.ebpf_host.specs.declared.refusal.Refusal.{Refusal}
use Rattle.ebpf_host.specs.Loading.{IsFaultBy}
use Rattle.ebpf_host_c.specs.Ways.{IsLoadedAlone, IsLoadedBy, IsRefusedBy}
use Rattle.ebpf_host_c.specs.Objects.{IsLineIn}
use Rattle.ebpf_host_c.specs.Reported.{IsReportedWith}
use Rattle.ebpf_host_c.proofs.InRange.{loaded_in_range, refused_in_range}
use Rattle.ebpf_host_c.proofs.Holding.{kept_as}
use Rattle.ebpf_host_c.proofs.loading.load_slots.Goals as goal

pub returns-in-Ok : goal.returns-in-Ok
returns-in-Ok c =
    let way = c.args.way in record {
      loaded = λ done. kept_as (IsLoadedAlone (IsLoadedBy way.loops way.context way.held c.args.code.now)) c.in-Ok.loaded c.keep.new.program.value
          (c.keep.ensures.kept done) (record { none = c.in-Ok.ensures.alone; is = c.in-Ok.ensures.loaded });
      refused = search rules;
      untold = λ _. (refl, refl);
      declaration = search rules;
      memory = λ _. loaded_in_range way.loops way.context way.held c.args.code.now c.in-Ok.loaded.verified c.in-Ok.ensures.loaded;
      statuses = search rules;
      kept = search rules;
    }

pub returns-in-Ok-report_refusal : goal.returns-in-Ok-report_refusal
returns-in-Ok-report_refusal c =
    let way = c.args.way in record {
      loaded = search rules;
      refused = λ _. record {
        refusal = c.in-Err-Refused.refusal;
        is = subst (IsFaultBy (IsRefusedBy way.loops way.context way.held c.args.code.now) way.context way.held)
            c.in-Err-Refused.field-0-is c.in-Err-Refused.ensures.refused;
        reported_with = subst (λ (r : Refusal). IsReportedWith r (IsLineIn c.args.source) c.args.text.now c.report_refusal.new.text c.report_refusal.new.refused)
            c.in-Err-Refused.refusal-is c.in-Ok-report_refusal.ensures.reported;
      };
      untold = search rules;
      declaration = search rules;
      memory = search rules;
      statuses = search rules;
      kept = λ _. refl;
    }

pub returns-in-Err : goal.returns-in-Err
returns-in-Err c =
    let way = c.args.way in record {
      loaded = search rules;
      refused = search rules;
      untold = λ _. c.in-Err.ensures.unchanged;
      declaration = search rules;
      memory = λ _. refused_in_range way.loops way.context way.held c.args.code.now c.in-Err-Refused.refusal
          (subst (IsFaultBy (IsRefusedBy way.loops way.context way.held c.args.code.now) way.context way.held)
          c.in-Err-Refused.field-0-is c.in-Err-Refused.ensures.refused);
      statuses = search rules;
      kept = λ _. refl;
    }
