use Rattle.ebpf_reader.specs.ReadScripts.{parsed_script}
use Rattle.ebpf_reader.proofs.ShapeLemmas.{shaped, tested, one_word, two_words, exec_line, start_line, answered_line, grow_line}
use Rattle.ebpf_reader.proofs.ShapeLemmas.{reap_line, no_event, no_long_event}
use Rattle.ebpf_reader.proofs.line.read_event_words.Goals as goal

pub returns-in-len1 : goal.returns-in-len1
returns-in-len1 c =
    let exec = tested c.args.first.now c.as_slice.ensures c.eq.ensures c.if-eq.true in
    shaped _ _ _ (parsed_script c.args.script.now) _ _ (exec_line c.args.first.now _ _ (one_word _ _ _ c.in-len1.len_at_least c.in-len1.len_below) exec) c.read_exec.ensures.ok c.read_exec.ensures.refused

pub returns-in-len2 : goal.returns-in-len2
returns-in-len2 c =
    let start = tested c.args.first.now c.as_slice-then-rest-lt3.ensures c.eq-then-rest-lt3.ensures c.if-eq-2.true in
    shaped _ _ _ (parsed_script c.args.script.now) _ _ (start_line c.args.first.now _ _ _ (two_words _ _ _ _ c.in-len2.len_at_least c.in-len2.len_below) start) c.read_start.ensures.ok c.read_start.ensures.refused

pub returns-in-len2-2 : goal.returns-in-len2-2
returns-in-len2-2 c =
    let start = tested c.args.first.now c.as_slice-then-rest-lt3.ensures c.eq-then-rest-lt3.ensures c.if-eq-2.false in
    let exec = tested c.args.first.now c.as_slice-then-rest-lt3-2.ensures c.eq-then-rest-lt3-2.ensures c.if-eq-3.true in
    shaped _ _ _ (parsed_script c.args.script.now) _ _ (answered_line c.args.first.now _ _ _ (two_words _ _ _ _ c.in-len2.len_at_least c.in-len2.len_below) start exec) c.read_answered.ensures.ok c.read_answered.ensures.refused

pub returns-in-len2-3 : goal.returns-in-len2-3
returns-in-len2-3 c =
    let start = tested c.args.first.now c.as_slice-then-rest-lt3.ensures c.eq-then-rest-lt3.ensures c.if-eq-2.false in
    let exec = tested c.args.first.now c.as_slice-then-rest-lt3-2.ensures c.eq-then-rest-lt3-2.ensures c.if-eq-3.false in
    let grow = tested c.args.first.now c.as_slice-then-rest-lt3-3.ensures c.eq-then-rest-lt3-3.ensures c.if-eq-4.true in
    shaped _ _ _ (parsed_script c.args.script.now) _ _ (grow_line c.args.first.now _ _ _ (two_words _ _ _ _ c.in-len2.len_at_least c.in-len2.len_below) start exec grow) c.read_grow.ensures.ok c.read_grow.ensures.refused

pub returns-in-len2-4 : goal.returns-in-len2-4
returns-in-len2-4 c =
    let start = tested c.args.first.now c.as_slice-then-rest-lt3.ensures c.eq-then-rest-lt3.ensures c.if-eq-2.false in
    let exec = tested c.args.first.now c.as_slice-then-rest-lt3-2.ensures c.eq-then-rest-lt3-2.ensures c.if-eq-3.false in
    let grow = tested c.args.first.now c.as_slice-then-rest-lt3-3.ensures c.eq-then-rest-lt3-3.ensures c.if-eq-4.false in
    let reap = tested c.args.first.now c.as_slice-then-rest-lt3-4.ensures c.eq-then-rest-lt3-4.ensures c.if-eq-5.true in
    shaped _ _ _ (parsed_script c.args.script.now) _ _ (reap_line c.args.first.now _ _ _ (two_words _ _ _ _ c.in-len2.len_at_least c.in-len2.len_below) start exec grow reap) c.read_reap.ensures.ok c.read_reap.ensures.refused

pub returns-in_default-3 : goal.returns-in_default-3
returns-in_default-3 c =
    let start = tested c.args.first.now c.as_slice-then-rest-lt3.ensures c.eq-then-rest-lt3.ensures c.if-eq-2.false in
    let exec = tested c.args.first.now c.as_slice-then-rest-lt3-2.ensures c.eq-then-rest-lt3-2.ensures c.if-eq-3.false in
    let grow = tested c.args.first.now c.as_slice-then-rest-lt3-3.ensures c.eq-then-rest-lt3-3.ensures c.if-eq-4.false in
    let reap = tested c.args.first.now c.as_slice-then-rest-lt3-4.ensures c.eq-then-rest-lt3-4.ensures c.if-eq-5.false in
    record { ok = tt; refused = no_event (parsed_script c.args.script.now) c.args.first.now _ c.args.rest.now c.in-len2.len_at_least c.in-len2.len_below start exec grow reap }

pub returns-in_default-4 : goal.returns-in_default-4
returns-in_default-4 c = record { ok = tt; refused = no_long_event (parsed_script c.args.script.now) c.args.first.now _ c.args.rest.now c.in_default.len_at_least }
