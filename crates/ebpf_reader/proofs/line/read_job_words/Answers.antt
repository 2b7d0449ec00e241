use Rattle.ebpf_reader.specs.ReadScripts.{parsed_script}
use Rattle.ebpf_reader.proofs.ShapeLemmas.{shaped, tested, one_word, two_words, arena_line, job_line}
use Rattle.ebpf_reader.proofs.line.read_job_words.Goals as goal

pub returns-in-len1 : goal.returns-in-len1
returns-in-len1 c =
    let arena = tested c.args.first.now c.as_slice-then-rest-lt2.ensures c.eq-then-rest-lt2.ensures c.if-eq-2.true in
    shaped _ _ _ (parsed_script c.args.script.now) _ _ (arena_line c.args.first.now _ _ (one_word _ _ _ c.in-len1.len_at_least c.in-len1.len_below) arena) c.read_arena.ensures.ok c.read_arena.ensures.refused

pub returns-in-len2 : goal.returns-in-len2
returns-in-len2 c =
    let run = tested c.args.first.now c.as_slice-then-rest-lt3.ensures c.eq-then-rest-lt3.ensures c.if-eq-3.true in
    shaped _ _ _ (parsed_script c.args.script.now) _ _ (job_line c.args.first.now _ _ _ (two_words _ _ _ _ c.in-len2.len_at_least c.in-len2.len_below) run) c.read_job.ensures.ok c.read_job.ensures.refused
