use Rattle.std.proofs.Common.{inr}
use Rattle.ebpf_object_file.proofs.functions.open.Goals as goal

pub returns-in-None-clause-found : goal.returns-in-None-clause-found
returns-in-None-clause-found c = (record { header = c.in-Ok.ensures.exact.0; inside = c.in-None.ensures }, c.in-Ok.ensures.exact.1)

pub returns-in-Some-clause-refused : goal.returns-in-Some-clause-refused
returns-in-Some-clause-refused c = inr (c.in-Ok.ensures.exact.0, c.in-Some.field-0, c.in-Some.ensures)
