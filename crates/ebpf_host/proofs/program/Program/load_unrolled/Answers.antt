use Rattle.std.proofs.Common.{◌∙◌, subst}
use Rattle.std.proofs.lemmas.Result.{IfOk-weaker, IfErr-weaker}
use Rattle.ebpf_insn.specs.Decoding.{IsDecodeFault}
use Rattle.ebpf_host.proofs.Forwarding.{forward_fault}
use Rattle.ebpf_host.proofs.program.Program.load_unrolled.Goals as goal

pub returns-in-Ok-clause-loaded : goal.returns-in-Ok-clause-loaded
returns-in-Ok-clause-loaded c =
    let value = c.in-Some.ensures.value in
    IfOk-weaker c.load_decoded.result _ _
    (λ p h. record {
      decl = c.in-Some.decl;
      rows = c.kinds-kinds.result;
      declared = record { context_is = value.0; held_is = value.1; kinds = c.kinds-kinds.ensures };
      program = c.in-Ok.program;
      is_program = c.in-Ok.ensures.found;
      made_as = h;
    })
    c.load_decoded.ensures.loaded

pub returns-in-Ok-clause-declared : goal.returns-in-Ok-clause-declared
returns-in-Ok-clause-declared c =
    let value = c.in-Some.ensures.value in
    IfOk-weaker c.load_decoded.result _ _ (λ p h. h ∙ value.0) c.load_decoded.ensures.declared

pub returns-in-Ok-clause-refused : goal.returns-in-Ok-clause-refused
returns-in-Ok-clause-refused c =
    let value = c.in-Some.ensures.value in
    IfErr-weaker c.load_decoded.result _ _
    (forward_fault c.args.bytes.now c.args.context c.args.held c.in-Some.decl c.kinds-kinds.result c.in-Ok.program
    (record { context_is = value.0; held_is = value.1; kinds = c.kinds-kinds.ensures }) c.in-Ok.ensures.fine c.in-Ok.ensures.found)
    c.load_decoded.ensures.refused

pub returns-in_ok-undecoded-in-Err-Bad-clause-refused : goal.returns-in_ok-undecoded-in-Err-Bad-clause-refused
returns-in_ok-undecoded-in-Err-Bad-clause-refused c =
    let value = c.in-Some.ensures.value in
    let fault = subst (IsDecodeFault c.args.bytes.now) c.in-Err-Bad.field-0-is c.in-Err-Bad.ensures.refused in
    let refused = rw (c.in-Err-Bad.slot-is, c.in-Err-Bad.code-is) at c.in_ok-undecoded-in-Err-Bad.ensures in
    record {
      decl = c.in-Some.decl;
      rows = c.kinds-kinds.result;
      declared = record { context_is = value.0; held_is = value.1; kinds = c.kinds-kinds.ensures };
      is = rw fault refused;
    }
