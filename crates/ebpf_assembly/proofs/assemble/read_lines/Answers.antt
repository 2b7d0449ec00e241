use Rattle.std.proofs.Common.{rules, tests, ◌<◌, ◌≡◌, length, subst, ap, ◌∙◌, ◌+◌, ℕ, arith, length-append}
use Rattle.std.proofs.lemmas.Iterator.Consumers.{YieldsList-turn, YieldsList-end}
use Rattle.std.proofs.lemmas.Iterator.Splits.{YieldsList-from_slice_split}
use Rattle.std.proofs.lemmas.List.{length_push}
use Rattle.ebpf_insn.specs.Program.{placed}
use Rattle.ebpf_assembly.specs.Lines.{text_lines, is_newline, words, IsInsnAt}
use Rattle.ebpf_assembly.specs.Faults.{IsLineStop}
use Rattle.ebpf_assembly.proofs.Drafts.{few_len, fault_here, draft_blank, draft_more, empty_here, finished}
use Rattle.ebpf_assembly.proofs.assemble.read_lines.Goals as goal

pub loop-line-preserved-in-Ok-None : goal.loop-line-preserved-in-Ok-None
loop-line-preserved-in-Ok-None c =
    let turn = YieldsList-turn (YieldsList-from_slice_split _ is_newline c.args.text.now (cc) (cc) (cc) (λ x r q k. search (rules, tests)))
    c.loop-line.yielded _ c.loop-line.yielded_by _ _ c.in-Some.line c.in-Some.is c.next.ensures.steps in
    let inside : c.loop-line.number < length (text_lines c.args.text.now) = omega (arith, turn.0, c.loop-line.invariant.number) in
    let here = rw (← c.loop-line.invariant.number) at turn.1 in
    record {
      number = omega (arith, length_push c.loop-line.yielded c.in-Some.line, c.loop-line.invariant.number);
      few = c.loop-line.invariant.few;
      draft = draft_blank _ c.loop-line.number c.in-Some.line.now _ _ inside here (rw c.in-Ok-None.field-0-is at c.in-Ok-None.ensures.ok)
          c.loop-line.invariant.draft;
    }

pub overflow_add-len : goal.overflow_add-len
overflow_add-len c = omega (arith, few_len _ c.loop-line.slots.items c.loop-line.len c.loop-line.invariant.few c.loop-line.invariant.draft)

pub loop-line-preserved : goal.loop-line-preserved
loop-line-preserved c =
    let turn = YieldsList-turn (YieldsList-from_slice_split _ is_newline c.args.text.now (cc) (cc) (cc) (λ x r q k. search (rules, tests)))
    c.loop-line.yielded _ c.loop-line.yielded_by _ _ c.in-Some.line c.in-Some.is c.next.ensures.steps in
    let inside : c.loop-line.number < length (text_lines c.args.text.now) = omega (arith, turn.0, c.loop-line.invariant.number) in
    let here = rw (← c.loop-line.invariant.number) at turn.1 in
    let found = rw c.in-Ok-Some.field-0-is at c.in-Ok-Some.ensures.ok in
    let slot : c.len.result ≡ length c.loop-line.slots.items = search rules in
    record {
      number = omega (arith, length_push c.loop-line.yielded c.in-Some.line, c.loop-line.invariant.number);
      few = omega (arith, slot, found.1, ap length c.in_ok-place-in-Ok-Some.ensures, length-append c.loop-line.slots.items (placed c.in-Ok-Some.insn));
      draft = draft_more _ c.loop-line.number c.in-Some.line.now _ _ _ c.in-Ok-Some.insn inside here
          (subst (λ (k : ℕ). IsInsnAt k (words c.in-Some.line.now) c.in-Ok-Some.insn) slot found.0) c.in_ok-place-in-Ok-Some.ensures
          c.loop-line.invariant.draft;
    }

pub returns-in-Err-clause-refused : goal.returns-in-Err-clause-refused
returns-in-Err-clause-refused c =
    let turn = YieldsList-turn (YieldsList-from_slice_split _ is_newline c.args.text.now (cc) (cc) (cc) (λ x r q k. search (rules, tests)))
    c.loop-line.yielded _ c.loop-line.yielded_by _ _ c.in-Some.line c.in-Some.is c.next.ensures.steps in
    let inside : c.loop-line.number < length (text_lines c.args.text.now) = omega (arith, turn.0, c.loop-line.invariant.number) in
    let here = rw (← c.loop-line.invariant.number) at turn.1 in
    let slot : c.len.result ≡ length c.loop-line.slots.items = search rules in
    fault_here _ c.loop-line.number c.in-Some.line.now _ _ c.in-Err.fault inside here c.loop-line.invariant.draft
    (subst (λ (k : ℕ). IsLineStop (c.loop-line.number + 1) k c.in-Some.line.now c.in-Err.fault) slot c.in-Err.ensures.refused)

pub returns-then-len-eq0-clause-refused : goal.returns-then-len-eq0-clause-refused
returns-then-len-eq0-clause-refused c =
    let all = YieldsList-end (YieldsList-from_slice_split _ is_newline c.args.text.now (cc) (cc) (cc) (λ x r q k. search (rules, tests))) c.loop-line.yielded
    _ c.loop-line.yielded_by _ _ c.in-None.is c.next.ensures.steps in
    empty_here c.args.text.now c.loop-line.number _ _ (c.loop-line.invariant.number ∙ all.1) c.if-len-eq0.true c.loop-line.invariant.draft

pub returns-clause-ok : goal.returns-clause-ok
returns-clause-ok c =
    let all = YieldsList-end (YieldsList-from_slice_split _ is_newline c.args.text.now (cc) (cc) (cc) (λ x r q k. search (rules, tests))) c.loop-line.yielded
    _ c.loop-line.yielded_by _ _ c.in-None.is c.next.ensures.steps in
    rw c.new.ensures (finished c.args.text.now c.loop-line.number _ _ (c.loop-line.invariant.number ∙ all.1) c.loop-line.invariant.few c.if-len-eq0.false
    c.loop-line.invariant.draft)
