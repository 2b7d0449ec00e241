use Rattle.ebpf_assembly.proofs.OperandWords.{place_unread, place_read}
use Rattle.ebpf_assembly.proofs.operand.place.Goals as goal

pub returns-in_err-inner : goal.returns-in_err-inner
returns-in_err-inner c = rw c.from_residual.ensures (place_unread _ c.in_err-inner.ensures)

pub returns : goal.returns
returns c = place_read _ _ c.place_at-2.result c.in_ok-inner.ensures c.in_default.ensures c.place_at-2.ensures
