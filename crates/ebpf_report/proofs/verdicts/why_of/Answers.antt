use Rattle.std.proofs.Common.{◌≡◌, true, Bool, rules, string_bytes, subst, sym}
use Rattle.ebpf_command.proofs.KindLemmas.{AreRows-kinds}
use Rattle.ebpf_command.specs.Judging.{judged_as}
use Rattle.ebpf_explain.specs.Why.{why_of}
use Rattle.ebpf_report.specs.Explained.{IsTold}
use Rattle.ebpf_report.proofs.ExplainedLemmas.{not_asked, why_told}
use Rattle.ebpf_report.proofs.verdicts.why_of.Goals as goal

pub write_why-requires : goal.write_why-requires
write_why-requires c = AreRows-kinds c.args.kinds.now c.requires.kinds

pub returns-then-not-explain : goal.returns-then-not-explain
returns-then-not-explain c = not_asked c.args.explain _ _ _ _ _ (search rules) c.new-why.ensures.bytes

pub returns : goal.returns
returns c =
    let asked : c.args.explain ≡ true = search rules in
    let p = c.args.program.now in
    let told : string_bytes c.write_why.new.text ≡ why_of p.bytes.items p.decl c.args.kinds.now c.args.examined.now = search rules in
    subst (λ (b : Bool). IsTold b (judged_as c.args.examined.now) p.bytes.items p.decl c.args.kinds.now (string_bytes c.write_why.new.text)) (sym asked)
    (why_told p.bytes.items p.decl c.args.kinds.now c.args.examined.now _ c.requires.examined told)
