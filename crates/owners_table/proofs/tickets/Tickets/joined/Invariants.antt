use Rattle.std.proofs.Common.{vec_len}
use Rattle.owners_table.specs.Drawing.{IsOf, sheet}
use Rattle.owners_table.proofs.Joining.{Joined}
use Rattle.owners_table.proofs.tickets.Tickets.joined.Given as goal

abbrev pub invariant-loop-other : goal.invariant-loop-other
invariant-loop-other l = Joined sheet (IsOf l.fn.self) l.fn.self.table l.fn.seats.items l.all.table_id l.all.me l.seats.items

abbrev pub decreases-loop-other : goal.decreases-loop-other
decreases-loop-other l = vec_len l.seats
