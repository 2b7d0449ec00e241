-- The line of a file that has the least number above another.
use Rattle.std.specs.Prelude.{ℕ, zero, suc, Bool, true, ◌==◌, ◌&&◌, nat_lt, if◌then◌else◌, List, Option, Some, None}
use Rattle.ebpf_object_file.specs.declared.lines.Line.{Line}
use Rattle.ebpf_lines.specs.LineCounts.{held}

abbrev pub is_nearer : Option Line → Line → Bool
is_nearer None n = true
is_nearer (Some found) n = nat_lt n.line found.line

abbrev pub nearer : (file above : ℕ) → Option Line → Option Line → Option Line
nearer file above nearest None = nearest
nearer file above nearest (Some n) = if n.file == file && nat_lt above n.line && is_nearer nearest n then Some n else nearest

-- of the slots below n, the first that has it
unfoldable pub nearest_below : List (Option Line) → (file above : ℕ) → ℕ → Option Line
nearest_below holding file above zero = None
nearest_below holding file above (suc n) = nearer file above (nearest_below holding file above n) (held holding n)
