use Rattle.std.proofs.Common.{◌≡◌, refl}
use Rattle.std.proofs.lemmas.Result.{IfOk-weaker}
use Rattle.ebpf_input.specs.Asked.{Asked, asked_for}
use Rattle.ebpf_one.proofs.Responses.{Responds-asked}
use Rattle.ebpf_one.proofs.answer.answer_program.Goals as goal

pub returns-in-Ok : goal.returns-in-Ok
returns-in-Ok c =
    let asked : Asked = record { bytes = c.in-Ok.request.bytes.items; context = c.in-Ok.request.context.items; held = c.in-Ok.request.decl.held } in
    let e = c.in-Ok.ensures in
    let same : asked ≡ asked_for c.args.form c.args.input.now c.args.ask.now.context.now c.args.ask.now.held = rw (e.bytes, e.context, e.declared.1) refl in
    IfOk-weaker c.answer_request.result _ _
    (λ response h. Responds-asked c.args.ask.now.format c.args.form c.args.input.now c.args.ask.now.context.now c.args.ask.now.held c.args.how asked response e.fine same h)
    c.answer_request.ensures
