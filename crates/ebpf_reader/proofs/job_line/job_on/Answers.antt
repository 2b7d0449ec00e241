use Rattle.std.proofs.Common.{◌≡◌, map, true, Some, None, refl, sym}
use Rattle.ebpf_command.specs.HexText.{hex_or_dash}
use Rattle.ebpf_reader.specs.Names.{is_name}
use Rattle.ebpf_reader.specs.ReadScripts.{named}
use Rattle.ebpf_reader.specs.ParsedScript.{number_of, declared_by}
use Rattle.ebpf_reader.proofs.ScriptLemmas.{number_of-said, declared_by-said}
use Rattle.ebpf_reader.proofs.job_line.job_on.Goals.{In-Some}
use Rattle.ebpf_reader.proofs.job_line.job_on.Goals as goal

bytes-are : (c : In-Some) → hex_or_dash c.args.hex.now ≡ Some c.in-Some.bytes.items
bytes-are c = sym (rw c.in-Some.is at c.in_ok-bytes.ensures)

pub returns-in_default-program_after-clause-refused :
    goal.returns-in_default-program_after-clause-refused
returns-in_default-program_after-clause-refused c =
    rw (
      bytes-are (goal.at.returns-in_default-program_after-clause-refused c).In-Some,
      ← c.in-Some-name_of.ensures.allowed,
      number_of-said (map named c.args.script.now.programs.entries) _ c.args.name.now None c.in-Some-name_of.ensures.same c.in_default-program_after.ensures.number,
    ) refl
