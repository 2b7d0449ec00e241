use Rattle.std.proofs.Common.{◌≡◌, sym, ◌∙◌, true≢false}
use Rattle.ebpf_reader.specs.declared.script.Dialect.TheVariants.{Jobs}
use Rattle.ebpf_reader.specs.LineFaults.{shape_fault, line_fault}
use Rattle.ebpf_reader.specs.ReadScripts.{parsed_script}
use Rattle.ebpf_reader.specs.Shapes.{JobLine}
use Rattle.ebpf_reader.proofs.JobLemmas.{again_fault, begins_still}
use Rattle.ebpf_reader.proofs.LinesLemmas.{added_fine}
use Rattle.ebpf_reader.proofs.line.read_next.Goals.{In-Some, in-Jobs, in_default}
use Rattle.ebpf_reader.proofs.line.read_next.Goals as goal

is_jobs : (c : In-Some) → c.args.dialect ≡ Jobs
is_jobs c = elim c.match-matches.branch [
  | in-Jobs w ↦ w.in-Jobs.is
  | in_default w ↦ absurd (true≢false (sym c.if-matches.true ∙ w.matches-is))
]

fault_is : (c : In-Some) → line_fault c.args.dialect (parsed_script c.args.script.now) c.in-Some.again.line.now
    ≡ shape_fault (parsed_script c.args.script.now) (JobLine c.in-Some.again.beginning.name.now c.in-Some.again.hex.now)
fault_is c =
    let again = c.in-Some.ensures.again in
    let printable = c.requires.known c.if-is_known.true c.in-Some.again.line.now again.first in
    rw (is_jobs c) (again_fault (parsed_script c.args.script.now) c.in-Some.again.line.now _ _ printable again.split)

pub returns-in-Some-clause-fine : goal.returns-in-Some-clause-fine
returns-in-Some-clause-fine c =
    let at = goal.at.returns-in-Some-clause-fine c in
    added_fine c.read_job_again.result _ _ _ _ (rw (sym c.in-Some.ensures.again.first.begins) (fault_is at.In-Some)) c.read_job_again.ensures.ok

pub returns-in-Some-clause-refused : goal.returns-in-Some-clause-refused
returns-in-Some-clause-refused c =
    let at = goal.at.returns-in-Some-clause-refused c in
    rw (sym c.in-Some.ensures.again.first.begins, fault_is at.In-Some) c.read_job_again.ensures.refused

pub returns-in-Some-clause-begins : goal.returns-in-Some-clause-begins
returns-in-Some-clause-begins c = begins_still c.read_job_again.result _ _ _ _ _ c.job_again.ensures.kept c.read_job_again.ensures.ok
