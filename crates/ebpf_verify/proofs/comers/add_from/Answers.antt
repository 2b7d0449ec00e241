use Rattle.std.proofs.Common.{◌≡◌, ◌∙◌, sym, false, Some, rules, arith}
use Rattle.ebpf_insn.specs.Program.{insn_at}
use Rattle.ebpf_flow.specs.Edges.{edges_at, leads_to}
use Rattle.ebpf_verify.specs.Entry.{entry_of}
use Rattle.ebpf_verify.specs.Subject.{Subject}
use Rattle.ebpf_verify.proofs.Coming.{sent_nowhere, entry_looked_at, refusal_below}
use Rattle.ebpf_verify.proofs.comers.add_from.Goals as goal

pub returns-then-not-jumps : goal.returns-then-not-jumps
returns-then-not-jumps c =
    let p = c.args.trace.now.flowed.now in
    let falls : leads_to (edges_at p c.args.from).fall c.args.to ≡ false = search rules in
    let jumps : leads_to (edges_at p c.args.from).jump c.args.to ≡ false = search rules in
    sent_nowhere (insn_at p c.args.from) p c.args.from c.args.to (entry_of p c.args.from) c.args.comers.now.items falls jumps

pub add_after-requires-clause-fine : goal.add_after-requires-clause-fine
add_after-requires-clause-fine c =
    let trace = c.args.trace.now in
    let subject : Subject = record { program = trace.flowed.now; decl = trace.decl; rows = trace.kinds.now } in
    let at : insn_at trace.flowed.now c.args.from ≡ Some c.in-Some-Known.insn.now = search rules in
    let here = c.index.ensures ∙ entry_looked_at subject trace.entries.items c.args.from c.index.result.now trace.looked (omega (arith, c.requires.before, c.requires.inside)) in
    refusal_below subject trace.entries.items c.args.from c.args.to c.in-Some-Known.insn.now c.in-Some-Known.state trace.looked
    c.requires.before c.requires.inside at (sym c.in-Some-Known.is-1 ∙ here)

pub returns-in-Some-Known : goal.returns-in-Some-Known
returns-in-Some-Known c =
    let trace = c.args.trace.now in
    let subject : Subject = record { program = trace.flowed.now; decl = trace.decl; rows = trace.kinds.now } in
    let here = c.index.ensures ∙ entry_looked_at subject trace.entries.items c.args.from c.index.result.now trace.looked (omega (arith, c.requires.before, c.requires.inside)) in
    rw (← here, c.in-Some-Known.is-1) (search rules)

pub returns-in_default : goal.returns-in_default
returns-in_default c =
    let trace = c.args.trace.now in
    let subject : Subject = record { program = trace.flowed.now; decl = trace.decl; rows = trace.kinds.now } in
    let here = c.index.ensures ∙ entry_looked_at subject trace.entries.items c.args.from c.index.result.now trace.looked (omega (arith, c.requires.before, c.requires.inside)) in
    rw (← here) (search rules)
