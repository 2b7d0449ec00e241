use Rattle.std.proofs.Common.{ap, ◌∙◌}
use Rattle.ebpf_owned.specs.Claims.{lost}
use Rattle.ebpf_owned.proofs.Claiming.{found_owner, lost_as_before, lost_one_more}
use Rattle.ebpf_owned.proofs.owned.Owned.claim.Goals as goal

pub returns-in_default-clause-none_lost : goal.returns-in_default-clause-none_lost
returns-in_default-clause-none_lost c = ap lost c.in_default.ensures.ok.1 ∙ lost_as_before _ c.args.seat.now.notes

pub returns-clause-taken : goal.returns-clause-taken
returns-clause-taken c = found_owner _ _ _ c.args.seat.now.notes _ c.slot.ensures.is c.in-Err.ensures.taken.1

pub returns-clause-one_lost : goal.returns-clause-one_lost
returns-clause-one_lost c = lost_one_more _ _ c.args.seat.now.notes _ c.in-Err.ensures.taken.1
