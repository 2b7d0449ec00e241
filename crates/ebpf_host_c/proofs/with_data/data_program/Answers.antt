use Rattle.std.proofs.Common.{inl, arith}
use Rattle.std.proofs.lemmas.Result.{IfOk-weaker, IfErr-weaker}
use Rattle.ebpf_command.proofs.KindLemmas.{AreRows-kinds}
use Rattle.ebpf_host_c.specs.WithData.{IsLinkedFor}
use Rattle.ebpf_host_c.proofs.Unloading.{unloaded_of}
use Rattle.ebpf_host_c.proofs.with_data.data_program.Goals as goal

pub load-requires-clause-rows : goal.load-requires-clause-rows
load-requires-clause-rows c = AreRows-kinds c.kinds.result c.kinds.ensures

pub linked_program-requires : goal.linked_program-requires
linked_program-requires c = let whole = c.in-Ok.ensures.declared in omega (arith, whole)

pub returns-in-Ok-clause-loaded : goal.returns-in-Ok-clause-loaded
returns-in-Ok-clause-loaded c =
    let value = c.in-Some.ensures.value in
    let linked : IsLinkedFor c.args.way.context c.args.way.held c.args.file.now c.args.function.now c.in-Ok.linked = record {
      decl = c.in-Some.decl;
      rows = c.kinds.result;
      declared = record { context_is = value.0; held_is = value.1; kinds = c.kinds.ensures };
      is = c.in-Ok.ensures.loaded;
    } in
    IfOk-weaker c.linked_program.result _ _ (λ p h. record { linked = c.in-Ok.linked; is_linked = linked; made = h }) c.linked_program.ensures.loaded

pub returns-in-Ok-clause-refused : goal.returns-in-Ok-clause-refused
returns-in-Ok-clause-refused c =
    let value = c.in-Some.ensures.value in let way = c.args.way in
    let linked : IsLinkedFor way.context way.held c.args.file.now c.args.function.now c.in-Ok.linked = record {
      decl = c.in-Some.decl;
      rows = c.kinds.result;
      declared = record { context_is = value.0; held_is = value.1; kinds = c.kinds.ensures };
      is = c.in-Ok.ensures.loaded;
    } in
    IfErr-weaker c.linked_program.result _ _
    (unloaded_of way.loops way.context way.held c.args.file.now c.args.function.now c.in-Ok.linked linked) c.linked_program.ensures.refused

pub returns-in_ok-say_fault-in-Err-clause-refused : goal.returns-in_ok-say_fault-in-Err-clause-refused
returns-in_ok-say_fault-in-Err-clause-refused c =
    let value = c.in-Some.ensures.value in
    inl (record {
      fault = c.in-Err.fault;
      is = record {
        decl = c.in-Some.decl;
        rows = c.kinds.result;
        declared = record { context_is = value.0; held_is = value.1; kinds = c.kinds.ensures };
        is = c.in-Err.ensures.refused;
      };
      said = c.in_ok-say_fault-in-Err.ensures;
    })
