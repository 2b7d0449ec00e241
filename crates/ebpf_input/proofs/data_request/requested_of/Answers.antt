use Rattle.std.proofs.Common.{◌+◌, ◌++◌, ℕ, List, length, refl, sym, ap, ◌∙◌}
use Rattle.std.proofs.lemmas.List.{length-append}
use Rattle.ebpf_verify.specs.declared.decl.Decl.{Decl}
use Rattle.ebpf_command.proofs.KindLemmas.{AreRows-kinds}
use Rattle.ebpf_input.specs.Asked.{AreGiven}
use Rattle.ebpf_input.specs.DataRequest.{asked_of}
use Rattle.ebpf_input.proofs.data_request.requested_of.Goals as goal

pub load-requires-clause-rows : goal.load-requires-clause-rows
load-requires-clause-rows c = AreRows-kinds c.kinds.result c.kinds.ensures

pub returns-in-Ok-joined-clause-found : goal.returns-in-Ok-joined-clause-found
returns-in-Ok-joined-clause-found c =
    let asked = asked_of c.args.ask.now c.args.function in
    let e = c.in-Ok.ensures in
    let j = c.in-Ok-joined.ensures in
    let given : AreGiven asked c.in-Ok.request.decl c.kinds.result = record {
      context = e.declared.0 ∙ ap (λ (x : List ℕ). length x) e.context;
      held = e.declared.1;
      kinds = c.kinds.ensures;
    } in
    record {
      fine = e.fine;
      decl = c.in-Ok.request.decl;
      rows = c.kinds.result;
      given = given;
      loaded = c.in-Ok-load.loaded;
      is = c.in-Ok-load.ensures.loaded;
      joined = record {
        function = j.function;
        bytes = j.bytes;
        context_is = j.context_is ∙ ap (λ (x : List ℕ). x ++ c.in-Ok-load.loaded.data.items) e.context;
        decl = j.decl;
        data_is = j.data_is;
        word = j.word;
      };
    }

pub returns-in-Ok-joined-clause-declared : goal.returns-in-Ok-joined-clause-declared
returns-in-Ok-joined-clause-declared c =
    let j = c.in-Ok-joined.ensures in
    let old = c.in-Ok.request.context.items in
    let new = c.in-Ok-load.loaded.data.items in
    ap (λ (d : Decl). d.context) j.decl ∙ c.in-Ok-load.ensures.declared ∙ ap (λ (n : ℕ). n + length new) c.in-Ok.ensures.declared.0
    ∙ sym (length-append old new) ∙ sym (ap (λ (x : List ℕ). length x) j.context_is)

pub returns-in-Err-clause-refused : goal.returns-in-Err-clause-refused
returns-in-Err-clause-refused c =
    let asked = asked_of c.args.ask.now c.args.function in
    let e = c.in-Ok.ensures in
    let given : AreGiven asked c.in-Ok.request.decl c.kinds.result = record {
      context = e.declared.0 ∙ ap (λ (x : List ℕ). length x) e.context;
      held = e.declared.1;
      kinds = c.kinds.ensures;
    } in
    (refl, record { fine = e.fine; decl = c.in-Ok.request.decl; rows = c.kinds.result; given = given; fault = c.in-Err.ensures.refused })
