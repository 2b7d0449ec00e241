use Rattle.std.proofs.Common.{◌≡◌, map, true, false, Some, is_some, refl, sym, ap, ◌∙◌}
use Rattle.ebpf_command.specs.HexText.{hex_or_dash}
use Rattle.ebpf_reader.specs.Names.{is_name}
use Rattle.ebpf_reader.specs.Numbers.{context_of, held_of}
use Rattle.ebpf_reader.specs.ReadScripts.{named}
use Rattle.ebpf_reader.specs.ParsedScript.{number_of}
use Rattle.ebpf_reader.proofs.ScriptLemmas.{is_defined-test, entries-more, named-more}
use Rattle.ebpf_reader.proofs.statement.read_program.Goals.{After-contains_key}
use Rattle.ebpf_reader.proofs.statement.read_program.Goals as goal

-- what was read of each word but `program`
read : (c : After-contains_key)
    → (context_of c.args.context.now ≡ Some c.in-Some.context) × (held_of c.args.held.now ≡ Some c.in-Some-held_of.held)
    × (hex_or_dash c.args.hex.now ≡ Some c.in-Some-2.bytes.items) × (is_name c.args.name.now ≡ true)
read c = (
  sym c.context_of.ensures.value ∙ c.in-Some.is,
  sym c.held_of.ensures.value ∙ c.in-Some-held_of.is,
  sym (rw c.in-Some-2.is at c.in_ok-bytes.ensures),
  sym c.in-Some-name_of.ensures.allowed,
)

pub returns-then-contains_key-clause-refused :
    goal.returns-then-contains_key-clause-refused
returns-then-contains_key-clause-refused c =
    let words = read (goal.at.returns-then-contains_key-clause-refused c).After-contains_key in
    let twice : is_some (number_of (map named c.args.script.now.programs.entries) c.args.name.now) ≡ true =
    is_defined-test _ _ c.args.name.now _ c.in-Some-name_of.ensures.same c.contains_key.ensures ∙ c.if-contains_key.true in
    rw (words.0, words.1, words.2, words.3, twice) refl

pub returns-clause-ok : goal.returns-clause-ok
returns-clause-ok c =
    let words = read (goal.at.returns-clause-ok c).After-contains_key in
    let once : is_some (number_of (map named c.args.script.now.programs.entries) c.args.name.now) ≡ false =
    is_defined-test _ _ c.args.name.now _ c.in-Some-name_of.ensures.same c.contains_key.ensures ∙ c.if-contains_key.false in
    let more = entries-more c.args.script.now.programs c.in_ok-name.name _ c.in-Some-name_of.name.now c.insert.new.self.entries c.in_ok-name.ensures.ok (sym c.if-contains_key.false ∙ c.contains_key.ensures) c.in_ok-insert.ensures.entries in
    let declared = rw c.unwrap-decl.ensures at c.new.ensures.value in
    record { fine = rw (words.0, words.1, words.2, words.3, once) refl; parsed = rw (words.2, words.0, words.1, more, c.in_ok-name.ensures.ok, c.in-Some-name_of.ensures.same, declared.0, declared.1) refl }

pub invariant_of-script : goal.invariant_of-script
invariant_of-script c =
    let allowed : is_name c.args.name.now ≡ true = sym c.in-Some-name_of.ensures.allowed in
    record {
      named = named-more c.insert.result c.args.script.now.programs c.in_ok-name.name _ c.in-Some-name_of.name.now c.insert.new.self.entries c.in_ok-name.ensures.ok
          (ap is_name c.in-Some-name_of.ensures.same ∙ allowed) (sym c.if-contains_key.false ∙ c.contains_key.ensures) c.insert.ensures.entries c.insert.ensures.err c.args.script.now.named;
    }
