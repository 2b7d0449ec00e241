use Rattle.std.proofs.Common.{◌≡◌, ◌++◌, string_bytes}
use Rattle.ebpf_explain.specs.StackWords.{texts_below}
use Rattle.ebpf_verify.specs.Traced.{subject_of}
use Rattle.ebpf_show.specs.Sourced.{row_of}
use Rattle.ebpf_show.proofs.sourced.write_rows.Given as goal

abbrev pub invariant-loop-slot : goal.invariant-loop-slot
invariant-loop-slot l =
    string_bytes l.text ≡ string_bytes l.fn.text ++ texts_below l.slot (row_of l.format l.beside (subject_of l.trace) l.trace.entries.items)
