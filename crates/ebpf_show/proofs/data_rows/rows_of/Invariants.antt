use Rattle.std.proofs.Common.{◌≡◌, take}
use Rattle.std.specs.Prelude.{string_bytes}
use Rattle.ebpf_show.specs.DataRows.{part_rows}
use Rattle.ebpf_show.proofs.data_rows.rows_of.Given as goal

abbrev pub invariant-loop-part : goal.invariant-loop-part
invariant-loop-part l = string_bytes l.text ≡ part_rows l.format l.names.functions l.begin (take l.part-index l.parts)
