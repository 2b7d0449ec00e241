use Rattle.std.proofs.Common.{◌≡◌, ◌||◌, ◌==◌, take}
use Rattle.std.specs.List.{list_all}
use Rattle.ebpf_reader.specs.ScriptLines.{is_text_byte}
use Rattle.ebpf_reader.proofs.lines.is_script_text.Given as goal

abbrev pub invariant-loop-c : goal.invariant-loop-c
invariant-loop-c l = l.all ≡ list_all (λ c. is_text_byte c || c == 10) (take l.c-index l.text)
