use Rattle.std.proofs.Common.{refl}
use Rattle.std.proofs.lemmas.Result.{IfOk-weaker}
use Rattle.ebpf_input.specs.Asked.{Asked}
use Rattle.ebpf_input.specs.Asked.{AreGiven}
use Rattle.ebpf_show.proofs.Responses.{shown_bytes}
use Rattle.ebpf_show.proofs.shown.show_request.Goals as goal

pub returns : goal.returns
returns c =
    let asked : Asked = record { bytes = c.args.request.bytes.items; context = c.args.request.context.items; held = c.args.request.decl.held } in
    let given : AreGiven asked c.args.request.decl c.kinds.result = record { context = c.requires; held = refl; kinds = c.kinds.ensures } in
    IfOk-weaker c.show_by.result _ _ (λ response h. shown_bytes c.args.unroll c.args.shown asked _ _ _ response c.deref.ensures.value given h) c.show_by.ensures
