use Rattle.std.proofs.Common.{◌≡◌, ◌+◌, ◌<◌, ◌≤◌, length, drop, fold, false, true, get_or, sym, ◌∙◌, arith}
use Rattle.std.specs.Char.{is_ascii_digit}
use Rattle.std.specs.Str.{all_ascii_digits}
use Rattle.std.proofs.lemmas.Bool.Decides.{nat_tests}
use Rattle.std.proofs.lemmas.List.{at_drop_all}
use Rattle.ebpf_reader.specs.Numbers.{value_of}
use Rattle.ebpf_reader.proofs.NumberLemmas.{more, value-grows, number_to-empty, number_to-not_digits, number_to-large, number_to-fits, value_here}
use Rattle.ebpf_reader.proofs.NumberLemmas.{not_digits_here}
use Rattle.ebpf_reader.proofs.numbers.number_to.Goals as goal

pub returns-then-is_empty-clause-value : goal.returns-then-is_empty-clause-value
returns-then-is_empty-clause-value c =
    let none : length c.args.word.now ≡ 0 = grind (arith, nat_tests) in
    sym (number_to-empty c.args.most c.args.word.now none)

pub returns-then-not-is_ascii_digit-clause-value :
    goal.returns-then-not-is_ascii_digit-clause-value
returns-then-not-is_ascii_digit-clause-value c =
    let here : is_ascii_digit (get_or c.args.word.now c.loop-digit.digit-index 0) ≡ false = sym c.is_ascii_digit.ensures.value ∙ c.if-not-is_ascii_digit.true in
    sym (number_to-not_digits c.args.most c.args.word.now (not_digits_here c.args.word.now c.loop-digit.digit-index c.loop-digit-test.true here c.loop-digit.invariant.digits))

pub returns-then-value-limit-clause-value : goal.returns-then-value-limit-clause-value
returns-then-value-limit-clause-value c =
    let word = c.args.word.now in
    let next = value_here word c.loop-digit.digit-index c.loop-digit.value c.loop-digit-test.true c.loop-digit.invariant.value in
    let grows = value-grows (more c.loop-digit.value (get_or word c.loop-digit.digit-index 0)) (drop (c.loop-digit.digit-index + 1) word) in
    let large : c.args.most < value_of word = omega (arith, next, grows, c.from.ensures, c.from-limit.ensures) in
    sym (number_to-large c.args.most word large)

pub returns-clause-value : goal.returns-clause-value
returns-clause-value c =
    let word = c.args.word.now in
    let all : length word ≤ c.loop-digit.digit-index = omega arith in
    let some : 0 < length word = grind (arith, nat_tests) in
    let digits : all_ascii_digits word ≡ true = sym c.loop-digit.invariant.digits ∙ at_drop_all all_ascii_digits word c.loop-digit.digit-index all in
    let value : value_of word ≡ c.loop-digit.value =
    sym c.loop-digit.invariant.value ∙ at_drop_all (fold more c.loop-digit.value) word c.loop-digit.digit-index all in
    sym (number_to-fits c.args.most c.loop-digit.value word some digits value (omega (arith, c.from-limit.ensures, c.loop-digit.invariant.fits)))
