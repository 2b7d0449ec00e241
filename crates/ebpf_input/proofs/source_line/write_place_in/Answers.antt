use Rattle.std.proofs.Common.{refl}
use Rattle.ebpf_input.proofs.SourceLine.{third_after}
use Rattle.ebpf_input.proofs.source_line.write_place_in.Goals as goal

pub returns-in_ok-write_source_tail-in-Json : goal.returns-in_ok-write_source_tail-in-Json
returns-in_ok-write_source_tail-in-Json c =
    rw c.in-Json.is (third_after _ _ _ _ _ _ _ _ c.in_ok-write_source_head-in-Json.ensures c.in_ok-write_column-in-Json.ensures
    refl c.in_ok-write_source_tail-in-Json.ensures)
