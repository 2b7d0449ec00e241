use Rattle.std.proofs.Common.{◌≡◌, ◌++◌, take, map}
use Rattle.std.specs.Prelude.{string_bytes}
use Rattle.ebpf_object_file.specs.Shown.{visible_byte}
use Rattle.ebpf_lines.proofs.line_text.write_visible.Given as goal

abbrev pub invariant-loop-byte : goal.invariant-loop-byte
invariant-loop-byte l = string_bytes l.text ≡ string_bytes l.initial.text ++ map visible_byte (take l.byte-index l.bytes)
