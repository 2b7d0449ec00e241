use Rattle.owners_table.proofs.OwningLaw.{one_owner}
use Rattle.owners_table.proofs.owners.each_slot_has_one_owner.Goals as goal

pub returns : goal.returns
returns c = one_owner
