use Rattle.std.proofs.Common.{◌≡◌, string_bytes}
use Rattle.ebpf_explain.specs.StackWords.{texts_below}
use Rattle.ebpf_one.specs.DataListText.{row_of}
use Rattle.ebpf_one.proofs.data_list.rows.Given as goal

abbrev pub invariant-loop-slot : goal.invariant-loop-slot
invariant-loop-slot l = string_bytes l.text ≡ texts_below l.slot (row_of l.format l.beside l.program)
