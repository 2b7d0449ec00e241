use Rattle.ebpf_input.proofs.Unders.{with_line, without}
use Rattle.ebpf_input.proofs.object.write_under.Goals as goal

pub returns-in-Some : goal.returns-in-Some
returns-in-Some c = with_line _ _ _ _ c.in-Outside.is _ c.in-Some.holding _ _ c.in-Some.ensures c.write_place_in.ensures

pub returns-in-None : goal.returns-in-None
returns-in-None c = without _ _ _ _ c.in-Outside.is _ c.in-None.ensures
