use Rattle.ebpf_command.proofs.Sending.{Appends-kept, begins, on_err}
use Rattle.ebpf_stream.proofs.feed.Feed.flush.Goals as goal

pub returns-clause-beginning : goal.returns-clause-beginning
returns-clause-beginning g c =
    on_err c.flush.result _ (begins _ _ _ (Appends-kept _ _ _ _ c.in_ok-write_out.ensures.written c.flush.ensures.same))
