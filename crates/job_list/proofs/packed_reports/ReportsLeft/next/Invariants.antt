use Rattle.std.proofs.Common.{◌≡◌, ◌++◌, length}
use Rattle.job_list.specs.ReportLists.{all_in}
use Rattle.job_list.proofs.packed_reports.ReportsLeft.next.Given as goal

abbrev pub invariant-loop-list : goal.invariant-loop-list
invariant-loop-list l = l.list ++ all_in l.lists ≡ l.initial.list ++ all_in l.initial.lists

abbrev pub decreases-loop-list : goal.decreases-loop-list
decreases-loop-list l = length l.lists
