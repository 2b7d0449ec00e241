use Rattle.std.proofs.Common.{arith}
use Rattle.ebpf_reader.proofs.NameLemmas.{table_says}
use Rattle.ebpf_reader.proofs.names.is_name_byte.Goals as goal

pub returns : goal.returns
returns c = table_says c.args.c (omega arith)
