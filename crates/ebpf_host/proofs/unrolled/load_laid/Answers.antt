use Rattle.std.proofs.Common.{◌∙◌, ℕ, List, Option, ap, subst, sym}
use Rattle.ebpf_insn.specs.Encoding.{IsProgram}
use Rattle.ebpf_layout.specs.Layout.{copied_in}
use Rattle.ebpf_host.specs.Loading.{IsLoadFault}
use Rattle.ebpf_host.proofs.unrolled.load_laid.Goals as goal

pub returns-in-Err-Refused-clause-refused : goal.returns-in-Err-Refused-clause-refused
returns-in-Err-Refused-clause-refused c =
    let laid = c.args.laid in
    let refused = subst (IsLoadFault c.deref.result.now c.args.decl.context c.args.decl.held) c.in-Err-Refused.field-0-is c.in-Err-Refused.ensures.refused in
    record {
      bytes = c.deref.result.now;
      is_program = subst (λ (bytes : List ℕ). IsProgram bytes laid.program) (sym c.deref.ensures.value) c.in_ok-bytes.ensures;
      refused = record { judged = refused.0.judged; why = refused.0.why };
      given_is = c.copied_at-refusal.ensures
          ∙ ap (λ (of : List (Option ℕ)). copied_in of c.in-Err-Refused.refusal.slot) c.deref-in-Err-Refused.ensures.value;
    }
