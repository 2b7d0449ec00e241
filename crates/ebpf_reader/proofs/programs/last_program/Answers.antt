use Rattle.std.proofs.Common.{sym}
use Rattle.ebpf_reader.proofs.ScriptLemmas.{named-there, number_of-own, declared_by-own}
use Rattle.ebpf_reader.proofs.programs.last_program.Goals as goal

pub returns-clause-allowed : goal.returns-clause-allowed
returns-clause-allowed c =
    let there = sym c.in_ok-name.ensures.entry in
    named-there c.args.script.now.programs.entries _ c.in_ok-name.name.now c.in_ok-name.text.now c.as_str.result.now c.args.script.now.named there (sym c.as_str.ensures.value)

pub returns-clause-number : goal.returns-clause-number
returns-clause-number c =
    let there = sym c.in_ok-name.ensures.entry in
    number_of-own c.args.script.now.programs.entries _ c.in_ok-name.name.now c.in_ok-name.text.now c.as_str.result.now c.len.ensures.unique there (sym c.as_str.ensures.value)

pub returns-clause-declared : goal.returns-clause-declared
returns-clause-declared c =
    declared_by-own c.args.script.now.programs.entries c.in_ok-name.name.now c.in_ok-name.text.now c.as_str.result.now c.in_ok-name.ensures.value (sym c.as_str.ensures.value)
