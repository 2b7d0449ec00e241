use Rattle.std.proofs.Common.{◌≡◌, string_bytes, sym, ◌∙◌}
use Rattle.std.proofs.lemmas.Slice.Eq.{bytes_eq-Decides}
use Rattle.ebpf_reader.proofs.ScriptLemmas.{number_of-own, declared_by-own}
use Rattle.ebpf_reader.proofs.programs.program_named.Goals.{Then-eq}
use Rattle.ebpf_reader.proofs.programs.program_named.Goals as goal

same-name : (c : Then-eq) → string_bytes c.in_ok-own.own.now ≡ c.args.name.now
same-name c = sym c.as_str.ensures.value ∙ (bytes_eq-Decides _ _).0 (sym c.if-eq.ensures)

pub returns-then-eq-clause-number : goal.returns-then-eq-clause-number
returns-then-eq-clause-number c =
    let there = sym c.in_ok-own.ensures.entry in
    number_of-own c.args.script.now.programs.entries _ c.in_ok-own.own.now c.in_ok-own.text.now c.args.name.now c.len.ensures.unique there (same-name c)

pub returns-then-eq-clause-declared : goal.returns-then-eq-clause-declared
returns-then-eq-clause-declared c =
    declared_by-own c.args.script.now.programs.entries c.in_ok-own.own.now c.in_ok-own.text.now c.args.name.now c.in_ok-own.ensures.value (same-name c)
