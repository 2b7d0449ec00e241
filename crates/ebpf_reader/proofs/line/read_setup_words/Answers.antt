use Rattle.ebpf_reader.specs.ReadScripts.{parsed_script}
use Rattle.ebpf_reader.proofs.ShapeLemmas.{shaped, tested, one_word, setup_line}
use Rattle.ebpf_reader.proofs.line.read_setup_words.Goals as goal

pub returns-in-len1 : goal.returns-in-len1
returns-in-len1 c =
    let arena = tested c.args.first.now c.as_slice.ensures c.eq.ensures c.if-eq.true in
    shaped _ _ _ (parsed_script c.args.script.now) _ _ (setup_line c.args.first.now _ _ (one_word _ _ _ c.in-len1.len_at_least c.in-len1.len_below) arena) c.read_arena.ensures.ok c.read_arena.ensures.refused
