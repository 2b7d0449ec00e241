use Rattle.ebpf_object_file.specs.Symbol.{symbol_of}
use Rattle.ebpf_object_file.proofs.Places.{symbol_inside}
use Rattle.ebpf_object_file.proofs.function.read_function.Goals as goal

pub is_code-requires-clause-section : goal.is_code-requires-clause-section
is_code-requires-clause-section c =
    symbol_inside c.args.file.now c.args.header (symbol_of c.args.symbols.now c.args.number) c.symbol_of-symbol.result c.requires.header
    c.symbol_of-symbol.ensures c.requires.function

pub code_of-requires-clause-section : goal.code_of-requires-clause-section
code_of-requires-clause-section c =
    symbol_inside c.args.file.now c.args.header (symbol_of c.args.symbols.now c.args.number) c.symbol_of-symbol.result c.requires.header
    c.symbol_of-symbol.ensures c.requires.function
