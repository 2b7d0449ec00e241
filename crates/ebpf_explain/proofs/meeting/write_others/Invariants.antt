use Rattle.std.proofs.Common.{◌≡◌, ◌++◌, take, string_bytes}
use Rattle.std.specs.List.{flat_map}
use Rattle.ebpf_explain.specs.Meeting.{next_held}
use Rattle.ebpf_explain.proofs.meeting.write_others.Given as goal

abbrev pub invariant-loop-reference : goal.invariant-loop-reference
invariant-loop-reference l = string_bytes l.text ≡ string_bytes l.fn.text ++ flat_map (next_held l.kinds) (take l.reference-index l.held)
