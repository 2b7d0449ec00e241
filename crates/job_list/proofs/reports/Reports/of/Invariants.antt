use Rattle.std.proofs.Common.{◌≡◌, ◌++◌, length}
use Rattle.job_list.proofs.reports.Reports.of.Given as goal

abbrev pub invariant-unpacking : goal.invariant-unpacking
invariant-unpacking l = l.reports.items ++ l.left ≡ l.fn.packed

abbrev pub decreases-unpacking : goal.decreases-unpacking
decreases-unpacking l = length l.left
