use Rattle.std.proofs.Common.{◌≡◌, ◌≤◌}
use Rattle.std.specs.Fmt.{HasWritten, IsPlainFormatter}
use Rattle.ebpf_object_file.specs.Sentences.{functions_below, names_below}
use Rattle.ebpf_object_file.proofs.functions.FunctionsDisplay.fmt.Given as goal

abbrev pub invariant-loop-number : goal.invariant-loop-number
invariant-loop-number g l = record {
  counted : l.count ≡ functions_below l.self.header.sections l.self.symbols.now l.number;
  few : l.count ≤ l.number;
  written : IsPlainFormatter l.fn.f
      → HasWritten g.W.Write.write_str_gives l.fn.f (names_below l.self.header.sections l.self.symbols.now l.self.strings.now l.number) l.f;
}
