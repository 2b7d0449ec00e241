use Rattle.std.proofs.Common.{◌≡◌, ◌≤◌, ◌+◌, ◌-◌, IfSome, length}
use Rattle.ebpf_reader.specs.Again.{IsBeginning}
use Rattle.ebpf_reader.specs.ReadScripts.{parsed_script}
use Rattle.ebpf_reader.specs.ParsedScript.{empty_script}
use Rattle.ebpf_reader.specs.ScriptLines.{script_lines}
use Rattle.ebpf_reader.specs.Scripts.{parsed_lines}
use Rattle.ebpf_reader.proofs.LinesLeft.{lines_from}
use Rattle.ebpf_reader.proofs.read_script.read_script.Given as goal

abbrev pub invariant-loop-from : goal.invariant-loop-from
invariant-loop-from l = record {
  within : l.from ≤ length l.text + 1;
  number : l.number ≤ l.from;
  few : l.script.passes ≤ l.number;
  begins : IfSome l.kept.beginning (IsBeginning l.script);
  behind : parsed_lines l.dialect (l.number + 1) (parsed_script l.script) (lines_from l.text l.from)
      ≡ parsed_lines l.dialect 1 empty_script (script_lines l.text);
}

abbrev pub decreases-loop-from : goal.decreases-loop-from
decreases-loop-from l = length l.text + 1 - l.from
