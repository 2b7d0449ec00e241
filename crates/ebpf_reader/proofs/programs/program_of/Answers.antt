use Rattle.std.proofs.Common.{◌≡◌, None, map, refl, sym}
use Rattle.ebpf_reader.specs.ReadScripts.{named}
use Rattle.ebpf_reader.specs.ParsedScript.{number_of}
use Rattle.ebpf_reader.proofs.ScriptLemmas.{number_of-index, declared_by-found}
use Rattle.ebpf_reader.proofs.programs.program_of.Goals as goal

pub returns-in_err-program-clause-number : goal.returns-in_err-program-clause-number
returns-in_err-program-clause-number c =
    let absent : number_of (map named c.args.script.now.programs.entries) c.args.name.now ≡ None =
    number_of-index _ _ c.args.name.now _ refl c.in_err-program.ensures.index in
    rw (c.from_residual.ensures, absent) refl

pub returns-clause-number : goal.returns-clause-number
returns-clause-number c = sym (number_of-index _ _ c.args.name.now _ refl c.in_ok-program.ensures.index)

pub returns-clause-declared : goal.returns-clause-declared
returns-clause-declared c = declared_by-found _ _ c.args.name.now _ refl c.in_ok-program.ensures.value
