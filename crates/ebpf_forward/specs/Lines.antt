-- The lines of why a program is refused.
use Rattle.std.specs.Prelude.{ℕ, ◌==◌, ◌++◌, if◌then◌else◌, List, [], length, codes, decimal, Option, Some, None, string_bytes}
use Rattle.std.specs.List.{flat_map}
use Rattle.std.specs.declared.alloc.Global.{Global}
use Rattle.std.specs.declared.string.String.{String}
use Rattle.ebpf_forward.specs.declared.why_not.KnownVisit.{KnownVisit}
use Rattle.ebpf_forward.specs.declared.why_not.Turns.{Turns}
use Rattle.ebpf_forward.specs.declared.why_not.WhyNot.{WhyNot}
use Rattle.ebpf_forward.specs.declared.why_not.WhyNot.TheVariants.{Slot, Loop}

-- what is known before a slot at a visit
abbrev pub visit_line : ℕ → KnownVisit → List ℕ
visit_line slot v =
    codes "  before slot " ++ (decimal slot ++ (codes ", at visit " ++ (decimal v.visit ++ (codes ":" ++ (string_bytes v.known ++ codes "\n")))))

abbrev pub visit_line_of : ℕ → Option KnownVisit → List ℕ
visit_line_of slot None = []
visit_line_of slot (Some v) = visit_line slot v

-- what a branch compares that leads out of a loop
abbrev pub exit_line : List ℕ → List ℕ
exit_line exit = codes "  " ++ (exit ++ codes "\n")

abbrev pub exits_of : List (String Global) → List ℕ
exits_of exits = flat_map (λ e. exit_line (string_bytes e)) exits

-- a line for each branch, or one that says that there is none
abbrev pub exit_lines : Turns → List ℕ
exit_lines t = if length t.exits.items == 0 then codes "  nothing leads out of it\n" else exits_of t.exits.items

abbrev pub turns_lines : Option Turns → List ℕ
turns_lines None = []
turns_lines (Some t) = exit_lines t

abbrev pub lines_of : WhyNot → List ℕ
lines_of (Slot r) = string_bytes r.why ++ visit_line_of r.slot r.visit
lines_of (Loop l) = string_bytes l.why ++ turns_lines l.turns
