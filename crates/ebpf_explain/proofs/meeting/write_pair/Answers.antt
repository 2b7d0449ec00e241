use Rattle.ebpf_explain.proofs.MeetingLemmas.{pushed_fourth}
use Rattle.ebpf_explain.proofs.meeting.write_pair.Goals as goal

pub returns : goal.returns
returns c =
    pushed_fourth _ _ _ _ _ _ _ _ _ _ c.in_ok-write_coming.ensures c.in_ok-push_str.ensures.bytes c.in_ok-write_coming-2.ensures c.push_str-2.ensures.bytes
