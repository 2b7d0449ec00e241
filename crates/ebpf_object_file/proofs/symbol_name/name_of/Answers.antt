use Rattle.std.proofs.Common.{sym, ◌∙◌}
use Rattle.ebpf_object_file.proofs.Objects.{names_inside}
use Rattle.ebpf_object_file.proofs.Names.{inside}
use Rattle.ebpf_object_file.proofs.symbol_name.name_of.Goals as goal

pub bytes_of-names-requires-clause-index : goal.bytes_of-names-requires-clause-index
bytes_of-names-requires-clause-index c =
    names_inside c.args.functions.file.now c.args.functions.header c.requires.functions.symbols.is.file_is c.requires.functions.header

pub section_of-section-requires-clause-index : goal.section_of-section-requires-clause-index
section_of-section-requires-clause-index c = inside c.args.functions.header.sections c.args.symbol (sym c.is_of_section.ensures ∙ c.if-not-is_of_section.false)
