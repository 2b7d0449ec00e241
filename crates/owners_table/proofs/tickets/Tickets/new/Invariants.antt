use Rattle.std.proofs.Common.{vec_len}
use Rattle.std.specs.Vec.{vec_capacity}
use Rattle.owners_table.specs.Drawing.{blank, fresh}
use Rattle.owners_table.proofs.Dealing.{Dealt}
use Rattle.owners_table.proofs.tickets.Tickets.new.Given as goal

abbrev pub invariant-loop-i : goal.invariant-loop-i
invariant-loop-i l =
    let table = l.table.shared.table_id in Dealt (blank l.limit) (fresh table l.limit) table l.seats l._i l.rest (vec_len l.all) (vec_capacity l.all) l.all.items
