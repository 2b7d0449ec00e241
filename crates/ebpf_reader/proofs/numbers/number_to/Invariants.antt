use Rattle.std.proofs.Common.{◌≡◌, ◌≤◌, drop, fold}
use Rattle.std.specs.Str.{all_ascii_digits}
use Rattle.ebpf_reader.specs.Numbers.{value_of}
use Rattle.ebpf_reader.proofs.NumberLemmas.{more}
use Rattle.ebpf_reader.proofs.numbers.number_to.Given as goal

abbrev pub invariant-loop-digit : goal.invariant-loop-digit
invariant-loop-digit l = record {
  fits : l.value ≤ l.limit;
  value : fold more l.value (drop l.digit-index l.word) ≡ value_of l.word;
  digits : all_ascii_digits (drop l.digit-index l.word) ≡ all_ascii_digits l.word;
}
