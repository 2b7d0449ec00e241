use Rattle.std.proofs.Common.{◌≤◌, ◌-◌, length, take}
use Rattle.ebpf_reader.specs.Words.{IsUnbroken}
use Rattle.ebpf_reader.proofs.words.word_length.Given as goal

abbrev pub invariant-loop-i : goal.invariant-loop-i
invariant-loop-i l = (l.i ≤ length l.text) × IsUnbroken (take l.i l.text)

abbrev pub decreases-loop-i : goal.decreases-loop-i
decreases-loop-i l = length l.text - l.i
