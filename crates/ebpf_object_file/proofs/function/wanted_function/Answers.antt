use Rattle.ebpf_object_file.proofs.Chosen.{wanted_refused}
use Rattle.ebpf_object_file.proofs.function.wanted_function.Goals as goal

pub returns-else-is_empty-clause-refused : goal.returns-else-is_empty-clause-refused
returns-else-is_empty-clause-refused c =
    wanted_refused c.function_named.result c.args.file.now c.args.name.now c.if-is_empty.ensures c.function_named.ensures.refused
