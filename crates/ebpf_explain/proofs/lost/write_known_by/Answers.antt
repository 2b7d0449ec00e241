use Rattle.std.proofs.Common.{refl, sym, append-nil}
use Rattle.std.proofs.lemmas.Option.{slice_get_read, slice_get_past}
use Rattle.ebpf_explain.proofs.lost.write_known_by.Goals as goal

pub returns-in-Some : goal.returns-in-Some
returns-in-Some c = let found = c.in-Some.ensures.lookup in rw (slice_get_read _ _ _ c.in-Some.comer.now refl found.3.0 found.1) c.write_known.ensures

pub returns-in-None : goal.returns-in-None
returns-in-None c = let found = c.in-None.ensures.lookup in rw (slice_get_past _ _ found.3) (sym (append-nil _))
