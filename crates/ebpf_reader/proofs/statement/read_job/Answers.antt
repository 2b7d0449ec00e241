use Rattle.std.proofs.Common.{◌≡◌, map, true, Option, Some, None, IfErr, refl, sym, subst}
use Rattle.ebpf_command.specs.declared.done.FaultCode.{FaultCode}
use Rattle.ebpf_command.specs.HexText.{hex_or_dash}
use Rattle.ebpf_command.specs.Stops.{IsStop}
use Rattle.ebpf_reader.specs.Names.{is_name}
use Rattle.ebpf_reader.specs.ReadScripts.{named, parsed_script}
use Rattle.ebpf_reader.specs.ParsedScript.{number_of, declared_by}
use Rattle.ebpf_reader.proofs.JobLemmas.{job_fault, job_adds}
use Rattle.ebpf_reader.proofs.ScriptLemmas.{number_of-said, declared_by-said}
use Rattle.ebpf_reader.proofs.statement.read_job.Goals.{In-Some, In-Some-program_of}
use Rattle.ebpf_reader.proofs.statement.read_job.Goals as goal

bytes-are : (c : In-Some) → hex_or_dash c.args.hex.now ≡ Some c.in-Some.bytes.items
bytes-are c = sym (rw c.in-Some.is at c.in_ok-bytes.ensures)

number-is : (c : In-Some-program_of) → number_of (map named c.args.script.now.programs.entries) c.args.name.now ≡ Some c.in-Some-program_of.program
number-is c = number_of-said _ _ c.args.name.now _ c.in-Some-name_of.ensures.same c.in-Some-program_of.ensures.number

declared-is : (c : In-Some-program_of)
    → declared_by (map named c.args.script.now.programs.entries) c.args.name.now ≡ Some c.in-Some-program_of.text.now.decl.context
declared-is c = declared_by-said _ _ c.args.name.now _ c.in-Some-name_of.ensures.same c.in-Some-program_of.ensures.declared

pub returns-in_default-program_of-clause-refused :
    goal.returns-in_default-program_of-clause-refused
returns-in_default-program_of-clause-refused c =
    rw (
      bytes-are (goal.at.returns-in_default-program_of-clause-refused c).In-Some,
      ← c.in-Some-name_of.ensures.allowed,
      number_of-said (map named c.args.script.now.programs.entries) _ c.args.name.now None c.in-Some-name_of.ensures.same c.in_default-program_of.ensures.number,
    ) refl

pub returns-clause-refused : goal.returns-clause-refused
returns-clause-refused c =
    let at = goal.at.returns-clause-refused c in
    let allowed : is_name c.args.name.now ≡ true = sym c.in-Some-name_of.ensures.allowed in
    let left = job_fault (parsed_script c.args.script.now) c.args.name.now c.args.hex.now _ _ _ (bytes-are at.In-Some) allowed (number-is at.In-Some-program_of) (declared-is at.In-Some-program_of) in
    subst (λ (fault : Option FaultCode). IfErr c.add_job.result (IsStop fault)) (sym left) (rw c.deref.ensures.value at c.add_job.ensures.refused)

pub returns-clause-ok : goal.returns-clause-ok
returns-clause-ok c =
    let at = goal.at.returns-clause-ok c in
    let allowed : is_name c.args.name.now ≡ true = sym c.in-Some-name_of.ensures.allowed in
    job_adds c.add_job.result c.args.script.now _ c.args.name.now c.args.hex.now _ _ _ (bytes-are at.In-Some) allowed (number-is at.In-Some-program_of) (declared-is at.In-Some-program_of) (rw c.deref.ensures.value at c.add_job.ensures.fits) (rw c.deref.ensures.value at c.add_job.ensures.added)
