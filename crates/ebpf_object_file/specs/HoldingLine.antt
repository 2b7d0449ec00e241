-- The line of C that holds at a slot of a function, where the file says it.
use Rattle.std.specs.Prelude.{ℕ, ◌⊎◌, ◌/◌, List, length, Option, Some, None}
use Rattle.ebpf_object_file.specs.declared.fault.FileFault.{FileFault}
use Rattle.ebpf_object_file.specs.declared.holding_line.HoldingLine.{HoldingLine}
use Rattle.ebpf_object_file.specs.declared.lines.Line.{Line}
use Rattle.ebpf_object_file.specs.declared.lines.Lines.{Lines}
use Rattle.ebpf_object_file.specs.declared.outside.Place.{Place}
use Rattle.ebpf_object_file.specs.Lines.{Holds}
use Rattle.ebpf_object_file.specs.Source.{AreLinesOf, HasNoLinesOf, IsLinesOfFault}

-- of the lines of a function's section, this one holds at a byte, or none does
abbrev pub HoldsAt : List ℕ → Place → ℕ → Lines → Option Line → Type 0
HoldsAt file p at l line = AreLinesOf file p.section l × Holds l.size l.records.now p.from at (length l.records.now / l.size) line

-- there is none where none of the section's lines holds, where the file says nothing of them, and where they can't be read
abbrev pub IsHoldingLine : (file : List ℕ) → Place → (at : ℕ) → Option HoldingLine → Type 0
IsHoldingLine file p at (Some h) = HoldsAt file p at h.lines (Some h.line)
IsHoldingLine file p at None =
    ((l : Lines) × HoldsAt file p at l None)
    ⊎ HasNoLinesOf file p.section
    ⊎ ((e : FileFault) × IsLinesOfFault file p.section e)
