use Rattle.std.proofs.Common.{sym, ◌∙◌}
use Rattle.ebpf_reader.proofs.NameLemmas.{is_name-IsUtf8}
use Rattle.ebpf_reader.proofs.names.name_of.Goals as goal

pub from_utf8_unchecked-requires : goal.from_utf8_unchecked-requires
from_utf8_unchecked-requires c = is_name-IsUtf8 c.args.word.now (sym c.is_name.ensures ∙ c.if-not-is_name.false)
