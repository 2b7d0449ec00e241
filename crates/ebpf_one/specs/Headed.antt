-- The line of C that holds at a slot, as a row before the slot, where a run comes to it from another one.
use Rattle.std.specs.Prelude.{◌≡◌, ◌/◌, ℕ, List, [], ◌∷◌, length, Option, Some, None, slice_index_or}
use Rattle.ebpf_object_file.specs.declared.function.Function.{Function}
use Rattle.ebpf_object_file.specs.declared.lines.Line.{Line}
use Rattle.ebpf_object_file.specs.declared.lines.Lines.{Lines}
use Rattle.ebpf_object_file.specs.Shown.{AreHolding}
use Rattle.ebpf_command.specs.declared.format.Format.{Format}
use Rattle.ebpf_input.specs.SourceLine.{heading}
use Rattle.ebpf_one.specs.declared.headed.Headed.{Headed}

abbrev pub line_held : Headed → Option ℕ → Option Line
line_held h None = None
line_held h (Some slot) = slice_index_or h.holding.now slot None

-- unless it is the one that holds at the slot where the run was before
abbrev pub heading_after : Format → Option Headed → (before : Option ℕ) → (slot : ℕ) → List ℕ
heading_after format None before slot = []
heading_after format (Some h) before slot = heading format h.lines (line_held h before) (slice_index_or h.holding.now slot None)

-- the line that holds at a slot that is copied
abbrev pub line_copied : List (Option Line) → Option ℕ → Option Line
line_copied holding None = None
line_copied holding (Some slot) = slice_index_or holding slot None

-- those that hold at the slots of a function, after a slot in front
pub record AreLinkedLines (l : Lines) (f : Function) (holding : List (Option Line)) : Type 0 where
  pub own : List (Option Line)
  pub whole : length own ≡ length f.code.now / 8
  pub are : AreHolding l f.place.from own
  pub linked : holding ≡ None ∷ own
