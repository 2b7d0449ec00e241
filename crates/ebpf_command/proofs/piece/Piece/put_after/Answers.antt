use Rattle.ebpf_command.proofs.Sending.{puts_all}
use Rattle.ebpf_command.proofs.piece.Piece.put_after.Goals as goal

pub returns-then-more-gt-LIMIT : goal.returns-then-more-gt-LIMIT
returns-then-more-gt-LIMIT g c =
    puts_all _ _ _ _ _ _ c.write_bytes.result c.in_ok-write_out.ensures.written c.in_ok-write_out.ensures.empty c.write_bytes.ensures.written c.write_bytes.ensures.beginning c.write_bytes.ensures.err
