use Rattle.std.proofs.Common.{◌≡◌, refl}
use Rattle.std.proofs.lemmas.Result.{IfOk-weaker}
use Rattle.ebpf_input.specs.Asked.{Asked, asked_for}
use Rattle.ebpf_one.proofs.Unrolls.{Unrolls-asked}
use Rattle.ebpf_one.proofs.unroll.unroll_input.Goals as goal

pub returns-in-Ok : goal.returns-in-Ok
returns-in-Ok c =
    let asked : Asked = record { bytes = c.in-Ok.request.bytes.items; context = c.in-Ok.request.context.items; held = c.in-Ok.request.decl.held } in
    let e = c.in-Ok.ensures in
    let same : asked ≡ asked_for c.args.form c.args.input.now c.args.ask.now.context.now c.args.ask.now.held = rw (e.bytes, e.context, e.declared.1) refl in
    IfOk-weaker c.unroll_request.result _ _
    (λ response h. Unrolls-asked c.args.ask.now c.args.how c.args.function c.args.form c.args.input.now asked response e.fine same h) c.unroll_request.ensures
