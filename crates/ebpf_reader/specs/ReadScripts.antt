-- A script and the stops of its reader, as contracts see them.
use Rattle.std.specs.Prelude.{◌≡◌, ◌<◌, ℕ, ◌+◌, ◌^◌, map, None, Result, Err, String, string_bytes}
use Rattle.std.specs.declared.alloc.Global.{Global}
use Rattle.ebpf_command.specs.declared.done.FaultCode.{FaultCode}
use Rattle.ebpf_command.specs.declared.done.Stop.{Stop}
use Rattle.ebpf_command.specs.declared.done.Stop.TheVariants as line
use Rattle.ebpf_reader.specs.declared.script.ProgramText.{ProgramText}
use Rattle.ebpf_reader.specs.declared.script.Script.{Script}
use Rattle.ebpf_reader.specs.declared.script.ScriptStop.{ScriptStop}
use Rattle.ebpf_reader.specs.declared.script.ScriptStop.TheVariants as script
use Rattle.ebpf_reader.specs.LineFaults.{shape_fault}
use Rattle.ebpf_reader.specs.ParsedScript.{Named, ParsedScript, with_line}
use Rattle.ebpf_reader.specs.Shapes.{Shape}

-- a program with its name
abbrev pub named : String Global × ProgramText → Named
named p = record { name = string_bytes p.0; bytes = p.1.bytes.items; context = p.1.decl.context; held = p.1.decl.held }

-- a script, as the definition has it
abbrev pub parsed_script : Script → ParsedScript
parsed_script s = record { programs = map named s.programs.entries; events = s.events.items; pages = s.pages; jobs = s.jobs; passes = s.passes }

-- a pass more can be counted
abbrev pub HasRoom : Script → Type 0
HasRoom s = s.passes + 1 < 2 ^ 32

-- a line of this shape has no fault, and took the script from old to new
pub record Adds (shape : Shape) (old new : Script) : Type 0 where
  pub fine : shape_fault (parsed_script old) shape ≡ None
  pub parsed : parsed_script new ≡ with_line (parsed_script old) shape

-- a line's stop is a script's, at the line of this number
abbrev pub stop_at : Stop → ℕ → ScriptStop
stop_at line.NoMemory number = script.NoMemory
stop_at (line.Fault code) number = script.Fault (record { code = code; line = number })

-- a script's stop is its fault with the line, or memory ran out
abbrev pub IsScriptStop : Result ParsedScript (ℕ × FaultCode) → ScriptStop → Type 0
IsScriptStop read script.NoMemory = Unit {0}
IsScriptStop read (script.Fault f) = read ≡ Err (f.line, f.code)
