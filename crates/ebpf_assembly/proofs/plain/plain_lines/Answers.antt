use Rattle.std.proofs.Common.{rules, tests, ap, ◌∙◌, arith}
use Rattle.std.proofs.lemmas.Iterator.Consumers.{YieldsList-turn, YieldsList-end}
use Rattle.std.proofs.lemmas.Iterator.Splits.{YieldsList-from_slice_split}
use Rattle.std.proofs.lemmas.List.{length_push}
use Rattle.ebpf_assembly.specs.Lines.{text_lines, is_newline}
use Rattle.ebpf_assembly.specs.Labels.{names_of}
use Rattle.ebpf_assembly.specs.Names.{own_words}
use Rattle.ebpf_assembly.specs.Reading.{texts}
use Rattle.ebpf_assembly.proofs.Labelling.{line_more, line_added, all_plain}
use Rattle.ebpf_assembly.proofs.plain.plain_lines.Goals as goal

pub loop-line-preserved : goal.loop-line-preserved
loop-line-preserved c =
    let turn = YieldsList-turn (YieldsList-from_slice_split _ is_newline c.args.text.now (cc) (cc) (cc) (λ x r q k. search (rules, tests)))
    c.loop-line.yielded _ c.loop-line.yielded_by _ _ c.in-Some.line c.in-Some.is c.next.ensures.steps in
    let own = c.own_words-own.ensures ∙ ap (own_words (names_of c.args.labels.now) c.loop-line.slot) (ap texts c.deref.ensures.value) in
    record {
      rest = rw (length_push c.loop-line.yielded c.in-Some.line)
          (line_more (names_of c.args.labels.now) _ _ _ _ _ _ (text_lines c.args.text.now) _ _ _ turn.0 turn.1 c.in_ok-words.ensures
          (ap texts c.deref-in-loop-line.ensures.value ∙ c.in_ok-words.ensures)
          (line_added (names_of c.args.labels.now) _ _ _ _ _ (texts c.in_ok-words.words.items) c.in_ok-push.ensures.items own c.in_ok-push_plain.ensures)
          c.slot_after-slot.ensures.value c.loop-line.invariant.rest);
      few = c.slot_after-slot.ensures.bound;
    }

pub returns : goal.returns
returns c =
    let all = YieldsList-end (YieldsList-from_slice_split _ is_newline c.args.text.now (cc) (cc) (cc) (λ x r q k. search (rules, tests))) c.loop-line.yielded
    _ c.loop-line.yielded_by _ _ c.in-None.is c.next.ensures.steps in
    all_plain (names_of c.args.labels.now) _ _ _ _ (text_lines c.args.text.now) (omega (arith, all.1)) c.loop-line.invariant.rest
