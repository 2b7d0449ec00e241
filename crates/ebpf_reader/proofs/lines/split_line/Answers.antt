use Rattle.std.proofs.Common.{◌≡◌, ◌≤◌, ◌+◌, ◌==◌, ◌∙◌, false, get_or, length, length-drop, sym, subst, arith}
use Rattle.std.proofs.lemmas.List.{take_rest}
use Rattle.ebpf_reader.proofs.WordLemmas.{Passed, passed_none, passed_word, passed_words, passed_gap, ends_there, no_newline, gap_here}
use Rattle.ebpf_reader.proofs.lines.split_line.Goals as goal

pub loop-start-init : goal.loop-start-init
loop-start-init c = (omega arith, subst (Passed c.args.text.now 0 0) (sym c.restart.ensures) (passed_none c.args.text.now))

pub returns-then-end-text-clause-whole : goal.returns-then-end-text-clause-whole
returns-then-end-text-clause-whole c =
    let text = c.args.text.now in
    let whole = rw (take_rest text c.loop-start.start) at c.word_length.ensures.whole in
    (passed_word text c.loop-start.start c.word_length.result c.loop-start.kept c.loop-start.invariant.1 whole).one_line

pub returns-then-end-text-clause-split : goal.returns-then-end-text-clause-split
returns-then-end-text-clause-split c =
    let text = c.args.text.now in
    let start = c.loop-start.start in
    let whole = rw (take_rest text start) at c.word_length.ensures.whole in
    let within = rw (take_rest text start) at c.word_length.ensures.within in
    c.add.ensures ∙ passed_words text start (start + c.word_length.result) c.loop-start.kept
    (passed_word text start c.word_length.result c.loop-start.kept c.loop-start.invariant.1 whole) (omega (arith, within, length-drop start text))

pub loop-start-preserved : goal.loop-start-preserved
loop-start-preserved c =
    let text = c.args.text.now in
    let start = c.loop-start.start in
    let n = c.word_length.result in
    let e = rw (take_rest text start) at c.word_length.ensures in
    let passed = passed_word text start n c.loop-start.kept c.loop-start.invariant.1 e.whole in
    let inside : start + n + 1 ≤ length text = omega (arith, e.within, length-drop start text) in
    let other : (get_or text (start + n) 0 == 10) ≡ false = no_newline (get_or text (start + n) 0) c.if-text-end-eq10.false in
    let gap = gap_here (get_or text (start + n) 0) other (ends_there text start n (e.end (omega (arith, inside, length-drop start text)))) in
    let words = c.add.ensures ∙ passed_words text start (start + n) c.loop-start.kept passed (omega (arith, inside)) in
    (inside, passed_gap text start (start + n) c.loop-start.kept _ passed (omega (arith, inside)) other gap words)
