use Rattle.std.proofs.Common.{◌+◌, ℕ, List, Option, length, subst, sym, ap, ◌∙◌}
use Rattle.std.proofs.lemmas.Result.{IfErr-weaker, IfOk-weaker}
use Rattle.ebpf_insn.specs.declared.insn.Insn.{Insn}
use Rattle.ebpf_loader.specs.declared.fault.LoadFault.{LoadFault}
use Rattle.ebpf_loader.specs.declared.fault.LoadFault.TheVariants as fault
use Rattle.ebpf_loader.specs.Loading.{IsLoadFault, IsUnlinked, IsUnlinkedFault}
use Rattle.ebpf_verify.specs.declared.decl.Decl.{Decl}
use Rattle.ebpf_loader.proofs.Parts.{bytes_are}
use Rattle.ebpf_loader.proofs.load.load.Goals as goal

pub returns-in-Some-clause-loaded : goal.returns-in-Some-clause-loaded
returns-in-Some-clause-loaded c = IfOk-weaker c.link_data.result _ _
    (λ l h. record {
      program = c.in-Ok.program;
      decoded = c.in-Ok.ensures.found;
      laid = c.in_ok-data.data;
      is_laid = c.in_ok-data.ensures.laid;
      whole = c.in-Some.whole;
      is_whole = c.in-Some.ensures.value;
      is = h;
    })
    c.link_data.ensures.loaded

pub returns-in-Some-clause-declared : goal.returns-in-Some-clause-declared
returns-in-Some-clause-declared c =
    let file = c.args.file.now in
    let laid = c.in_ok-data.data in
    let size = bytes_are file c.args.function.now.uses.items laid c.in_ok-data.ensures.laid in
    IfOk-weaker c.link_data.result _ _
    (λ l h. ap (λ (d : Decl). d.context) h.declared ∙ c.in-Some.ensures.value.context
    ∙ ap (λ (n : ℕ). c.args.decl.context + n) (size ∙ sym (ap (λ (b : List ℕ). length b) h.after)))
    c.link_data.ensures.loaded

pub returns-in-Some-clause-refused : goal.returns-in-Some-clause-refused
returns-in-Some-clause-refused c = IfErr-weaker c.link_data.result _ _ refused c.link_data.ensures.refused
  where
    refused : (e : LoadFault) → IsUnlinkedFault c.in-Ok.program c.in_ok-data.data c.args.decl c.in-Some.whole c.args.kinds.now e
        → IsLoadFault c.args.file.now c.args.function.now c.args.decl c.args.kinds.now e
    refused (fault.Undecoded slot code) h = absurd h
    refused (fault.TooLong context laid) h = absurd h
    refused (fault.Unlinked p e) h =
        subst (λ (q : List (Option Insn)). IsUnlinked c.args.file.now c.args.function.now c.args.decl c.args.kinds.now q e) (sym h.0) (record {
          decoded = c.in-Ok.ensures.found;
          laid = c.in_ok-data.data;
          is_laid = c.in_ok-data.ensures.laid;
          whole = c.in-Some.whole;
          is_whole = c.in-Some.ensures.value;
          fault = h.1;
        })
    refused fault.NoMemory h = tt
