use Rattle.std.proofs.Common.{refl}
use Rattle.ebpf_shelves.proofs.Granting.{granted_goes}
use Rattle.ebpf_shelves.proofs.Slots.{granted_out, granted_apart, granted_others, granted_counted}
use Rattle.ebpf_shelves.proofs.store.StoreObjects.take.Goals as goal

pub returns-in-Some-clause-out : goal.returns-in-Some-clause-out
returns-in-Some-clause-out c = let granted = c.in-Some.ensures in
    granted_out c.args.self.now.table.items _ c.in-Some.object c.args.kind granted.table granted.object granted.image c.requires.kind

pub returns-in-Some-clause-apart : goal.returns-in-Some-clause-apart
returns-in-Some-clause-apart c other out = granted_apart c.args.self.now.table.items c.in-Some.object.slot other c.in-Some.ensures.object.0 out

pub returns-in-Some-clause-outs : goal.returns-in-Some-clause-outs
returns-in-Some-clause-outs c k = granted_counted c.args.self.now.table.items _ c.args.kind k c.in-Some.ensures.table

pub returns-in-Some-clause-others : goal.returns-in-Some-clause-others
returns-in-Some-clause-others c other out = (granted_others c.args.self.now.table.items _ _ other c.in-Some.ensures.table out, refl)

pub returns-in-Some-clause-goes : goal.returns-in-Some-clause-goes
returns-in-Some-clause-goes c = granted_goes _ _ _ _ _ _ _ c.in-Some.object c.in-Some.ensures.table c.in-Some.ensures.stays
