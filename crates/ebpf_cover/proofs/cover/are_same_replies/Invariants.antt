use Rattle.std.proofs.Common.{◌≡◌, ◌<◌, ℕ, get_or}
use Rattle.ebpf_machine.specs.declared.report.Reply.{Reply}
use Rattle.ebpf_cover.proofs.cover.are_same_replies.Given as goal

abbrev pub invariant-same : goal.invariant-same
invariant-same l = (k : ℕ) (d : Reply) → k < l.index → get_or l.replies k d ≡ get_or l.others k d
