use Rattle.std.proofs.Common.{◌≡◌, refl}
use Rattle.std.proofs.lemmas.Result.{IfOk-weaker}
use Rattle.ebpf_input.specs.Asked.{Asked, asked_for}
use Rattle.ebpf_show.proofs.Responses.{Shows-asked}
use Rattle.ebpf_show.proofs.shown.show_input.Goals as goal

pub returns-in-Ok : goal.returns-in-Ok
returns-in-Ok c =
    let asked : Asked = record { bytes = c.in-Ok.request.bytes.items; context = c.in-Ok.request.context.items; held = c.in-Ok.request.decl.held } in
    let e = c.in-Ok.ensures in
    let same : asked ≡ asked_for c.args.form c.args.input.now c.args.ask.now.context.now c.args.ask.now.held = rw (e.bytes, e.context, e.declared.1) refl in
    IfOk-weaker c.show_request.result _ _
    (λ response h. Shows-asked c.args.unroll c.args.shown c.args.form c.args.input.now c.args.ask.now.context.now c.args.ask.now.held asked response e.fine same h) c.show_request.ensures
