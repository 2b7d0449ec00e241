use Rattle.std.proofs.Common.{◌≡◌, ◌≤◌, ℕ, List, inr, length, rules, subst}
use Rattle.std.proofs.lemmas.Result.{IfOk-weaker}
use Rattle.ebpf_object_file.specs.Function.{IsWantedFault}
use Rattle.ebpf_one.proofs.unroll.unroll_object.Goals as goal

pub returns-in-Err : goal.returns-in-Err
returns-in-Err c =
    let short : length c.args.file.now ≤ 1048576 = search rules in
    let same : c.as_bytes.result.now ≡ c.args.name.now = search rules in
    let wanted = subst (λ (name : List ℕ). IsWantedFault c.args.file.now name c.in-Err.field-0) same c.in-Err.ensures.refused in
    IfOk-weaker c.unroll_with_data.result _ _
    (λ response h. inr (inr (c.in-Err.field-0, (short, wanted), h c.in-Err.field-0)))
    c.unroll_with_data.ensures
