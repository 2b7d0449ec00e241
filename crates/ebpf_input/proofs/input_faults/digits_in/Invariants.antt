use Rattle.std.proofs.Common.{◌≡◌, ◌≤◌, filter, length, take}
use Rattle.hex.specs.Hex.{is_hex_digit}
use Rattle.ebpf_input.proofs.input_faults.digits_in.Given as goal

abbrev pub invariant-loop-byte : goal.invariant-loop-byte
invariant-loop-byte l = record {
  counted : l.count ≡ length (filter is_hex_digit (take l.byte-index l.bytes));
  few : l.count ≤ l.byte-index;
}
