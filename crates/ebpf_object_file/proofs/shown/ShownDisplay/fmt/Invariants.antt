use Rattle.std.proofs.Common.{map, take}
use Rattle.std.specs.Fmt.{HasWritten, IsPlainFormatter}
use Rattle.ebpf_object_file.specs.Shown.{visible_byte}
use Rattle.ebpf_object_file.proofs.shown.ShownDisplay.fmt.Given as goal

abbrev pub invariant-loop-byte : goal.invariant-loop-byte
invariant-loop-byte g l =
    IsPlainFormatter l.fn.f → HasWritten g.W.Write.write_str_gives l.fn.f (map visible_byte (take l.byte-index l.self.bytes.now)) l.f
