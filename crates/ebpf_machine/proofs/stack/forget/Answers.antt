use Rattle.std.proofs.Common.{◌∙◌, sym}
use Rattle.ebpf_machine.proofs.Instructions.StackWords.{forgotten_marks, forgotten_words, whole_marks, whole_words}
use Rattle.ebpf_machine.proofs.stack.forget.Goals as goal

pub returns-then-is_whole_word-clause-pointing : goal.returns-then-is_whole_word-clause-pointing
returns-then-is_whole_word-clause-pointing c =
    λ word. whole_words c.args.pointing.now c.args.place c.args.count word c.told-pointing c.requires.inside
    (sym c.is_whole_word.ensures ∙ c.if-is_whole_word.true)

pub returns-then-is_whole_word-clause-marks : goal.returns-then-is_whole_word-clause-marks
returns-then-is_whole_word-clause-marks c =
    λ i lt outside. whole_marks c.args.marks.now c.args.pointing.now c.args.place c.args.count i
    (sym c.is_whole_word.ensures ∙ c.if-is_whole_word.true) outside

pub returns-else-is_whole_word-clause-pointing : goal.returns-else-is_whole_word-clause-pointing
returns-else-is_whole_word-clause-pointing c =
    λ word. forgotten_words c.args.pointing.now c.forget_word.new.pointing c.forget_word-else-is_whole_word.new.pointing _ _ word
    c.forget_word.ensures.pointing c.forget_word-else-is_whole_word.ensures.pointing

pub returns-else-is_whole_word-clause-marks : goal.returns-else-is_whole_word-clause-marks
returns-else-is_whole_word-clause-marks c = λ i lt outside.
    forgotten_marks c.args.pointing.now c.forget_word.new.pointing c.args.marks.now c.forget_word.new.marks c.forget_word-else-is_whole_word.new.marks _
    _ i c.forget_word.ensures.pointing (c.forget_word.ensures.marks i lt) (c.forget_word-else-is_whole_word.ensures.marks i lt)
