use Rattle.std.proofs.Common.{vec_len}
use Rattle.std.specs.Vec.{vec_capacity}
use Rattle.owners_table.specs.Owning.{blank, fresh}
use Rattle.owners_table.proofs.Dealing.{Dealt}
use Rattle.owners_table.proofs.owners.dealt.Given as goal

abbrev pub invariant-loop-i : goal.invariant-loop-i
invariant-loop-i l =
    let table = l.table.shared.table_id in Dealt blank (fresh table) table l.seats l._i l.rest (vec_len l.all) (vec_capacity l.all) l.all.items
