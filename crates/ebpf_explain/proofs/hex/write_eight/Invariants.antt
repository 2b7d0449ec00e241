use Rattle.std.proofs.Common.{◌≡◌, ◌+◌, ◌++◌, string_bytes}
use Rattle.ebpf_explain.specs.Hex.{byte_digits}
use Rattle.ebpf_explain.specs.StackWords.{texts_below}
use Rattle.ebpf_explain.proofs.hex.write_eight.Given as goal

abbrev pub invariant-loop-number : goal.invariant-loop-number
invariant-loop-number l =
    string_bytes l.text ≡ string_bytes l.fn.text ++ texts_below l.number (λ number. byte_digits l.bytes l.slot (l.first + number))
