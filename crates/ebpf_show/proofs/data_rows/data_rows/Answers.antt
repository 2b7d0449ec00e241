use Rattle.std.proofs.Common.{◌<◌, ◌≤◌, ◌+◌, ◌^◌, ℕ, List, All, ap, subst, sym, ◌∙◌}
use Rattle.std.proofs.lemmas.Result.{IfOk-weaker}
use Rattle.ebpf_object_file.specs.declared.data_parts.Part.{Part}
use Rattle.ebpf_object_file.specs.declared.functions.Functions.{Functions}
use Rattle.ebpf_object_file.specs.DataParts.{IsLaid}
use Rattle.ebpf_object_file.specs.Section.{sections_in}
use Rattle.ebpf_show.specs.DataRows.{data_begin, part_rows}
use Rattle.ebpf_show.proofs.data_rows.data_rows.Goals as goal

pub rows_of-requires-clause-sections : goal.rows_of-requires-clause-sections
rows_of-requires-clause-sections c =
    let file = ap (λ (f : Functions). f.file.now) c.in_ok-names.ensures.same ∙ c.requires.same in
    subst (λ (x : List ℕ). All (λ (p : Part). p.section < sections_in x) c.deref.result.now) (sym file)
    (subst (λ (parts : List Part). All (λ (p : Part). p.section < sections_in c.args.file.now) parts) (sym c.deref.ensures.value) c.in_ok-laid.ensures.parts.inside)

pub rows_of-requires-clause-near : goal.rows_of-requires-clause-near
rows_of-requires-clause-near c =
    subst (λ (parts : List Part). All (λ (p : Part). p.from + p.size ≤ 2 ^ 62) parts) (sym c.deref.ensures.value) c.in_ok-laid.ensures.near

pub returns : goal.returns
returns c =
    let format = c.args.format in
    let function = c.args.linked.now.function in
    let laid = c.in_ok-laid.laid in
    let parts = c.deref.result.now in
    IfOk-weaker c.rows_of.result _ _
    (λ text h. record {
      laid = laid;
      is_laid = subst (λ (x : List ℕ). IsLaid x function.uses.items laid) (sym c.requires.same) c.in_ok-laid.ensures.laid;
      are = h ∙ ap (λ (f : Functions). part_rows format f c.data_begin.result parts) c.in_ok-names.ensures.same
          ∙ ap (λ (begin : ℕ). part_rows format function.functions begin parts) c.data_begin.ensures.value
          ∙ ap (λ (ps : List Part). part_rows format function.functions (data_begin c.args.linked.now) ps) c.deref.ensures.value;
    })
    c.rows_of.ensures
