use Rattle.std.proofs.Common.{◌≡◌, map, true, Some, None, refl, sym, ◌∙◌}
use Rattle.ebpf_command.specs.HexText.{hex_or_dash}
use Rattle.ebpf_reader.specs.Names.{is_name}
use Rattle.ebpf_reader.specs.ReadScripts.{named}
use Rattle.ebpf_reader.specs.ParsedScript.{number_of}
use Rattle.ebpf_reader.proofs.ScriptLemmas.{number_of-index}
use Rattle.ebpf_reader.proofs.statement.read_start.Goals as goal

pub returns-in_default-get_index_of-clause-refused :
    goal.returns-in_default-get_index_of-clause-refused
returns-in_default-get_index_of-clause-refused c =
    let bytes : hex_or_dash c.args.hex.now ≡ Some c.in-Some.bytes.items = sym (rw c.in-Some.is at c.in_ok-bytes.ensures) in
    let allowed : is_name c.args.name.now ≡ true = sym c.in-Some-name_of.ensures.allowed in
    let absent : number_of (map named c.args.script.now.programs.entries) c.args.name.now ≡ None =
    number_of-index _ _ c.args.name.now _ c.in-Some-name_of.ensures.same c.get_index_of.ensures.index ∙ c.in_default-get_index_of.is in
    rw (bytes, allowed, absent) refl

pub returns-clause-ok : goal.returns-clause-ok
returns-clause-ok c =
    let bytes : hex_or_dash c.args.hex.now ≡ Some c.in-Some.bytes.items = sym (rw c.in-Some.is at c.in_ok-bytes.ensures) in
    let allowed : is_name c.args.name.now ≡ true = sym c.in-Some-name_of.ensures.allowed in
    let number : number_of (map named c.args.script.now.programs.entries) c.args.name.now ≡ Some c.in-Some-get_index_of.program =
    number_of-index _ _ c.args.name.now _ c.in-Some-name_of.ensures.same c.get_index_of.ensures.index ∙ c.in-Some-get_index_of.is in
    record { fine = rw (bytes, allowed, number) refl; parsed = rw (bytes, number, c.in_ok-push.ensures.items) refl }
