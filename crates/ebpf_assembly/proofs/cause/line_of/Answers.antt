use Rattle.std.proofs.Common.{rules, tests, arith, ◌-◌}
use Rattle.std.proofs.lemmas.Iterator.Consumers.{YieldsList-turn, YieldsList-end}
use Rattle.std.proofs.lemmas.Iterator.Splits.{YieldsList-from_slice_split}
use Rattle.ebpf_assembly.specs.Lines.{text_lines, is_newline}
use Rattle.ebpf_assembly.proofs.Labelling.{line_there, line_past}
use Rattle.ebpf_assembly.proofs.cause.line_of.Goals as goal

pub returns-then-passed-before : goal.returns-then-passed-before
returns-then-passed-before c =
    let turn = YieldsList-turn (YieldsList-from_slice_split _ is_newline c.args.text.now (cc) (cc) (cc) (λ x r q k. search (rules, tests)))
    c.loop-line.yielded _ c.loop-line.yielded_by _ _ c.in-Some.line c.in-Some.is c.next.ensures.steps in
    line_there (text_lines c.args.text.now) _ (c.args.number - 1) _ turn.0 turn.1 (omega arith)

pub returns : goal.returns
returns c =
    let all = YieldsList-end (YieldsList-from_slice_split _ is_newline c.args.text.now (cc) (cc) (cc) (λ x r q k. search (rules, tests))) c.loop-line.yielded
    _ c.loop-line.yielded_by _ _ c.in-None.is c.next.ensures.steps in
    line_past (text_lines c.args.text.now) (c.args.number - 1) (omega (arith, all.1))
