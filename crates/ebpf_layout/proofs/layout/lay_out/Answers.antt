use Rattle.std.proofs.Common.{◌≡◌, None, List, Option, length, subst, sym, ◌∙◌, arith}
use Rattle.std.specs.Prelude.{reverse}
use Rattle.std.proofs.lemmas.List.{length-reverse}
use Rattle.ebpf_insn.specs.declared.insn.Insn.{Insn}
use Rattle.ebpf_flow.specs.Flow.{flow_fault}
use Rattle.ebpf_layout.specs.Layout.{IsLaidOut}
use Rattle.ebpf_layout.proofs.Codes.{well_formed}
use Rattle.ebpf_layout.proofs.Places.{IsDone, is_laid_out, is_laid_as, have_places, jumps_forward, some_code}
use Rattle.ebpf_layout.proofs.Fine.{flow_is_fine}
use Rattle.ebpf_layout.proofs.Alike.{run_alike}
use Rattle.ebpf_layout.proofs.layout.lay_out.Goals.{In_ok-code}
use Rattle.ebpf_layout.proofs.layout.lay_out.Goals as goal

-- all instructions are written, in the order that was found
done : (c : In_ok-code)
    → IsDone c.args.program.now c.in_ok-order.order.marks.items c.in_ok-order.order.slots.items
    c.in_ok-code.field-0.places.items c.in_ok-code.field-0.code.items c.in_ok-code.field-0.count
done c = record {
  ordered = c.in_ok-order.ensures.ordered;
  fine = c.in_ok-check_edges.ensures.fine;
  writing = c.in_ok-code.ensures.written;
  all = c.in_ok-code.ensures.all;
}

laid_out : (c : In_ok-code) → IsLaidOut c.args.program.now (reverse c.in_ok-code.field-0.code.items)
laid_out c = is_laid_out _ _ _ _ _ _ (done c)

pub copied_slots-requires : goal.copied_slots-requires
copied_slots-requires c =
    let w = c.in_ok-code.field-0 in
    let len : c.len-2.result ≡ length w.code.items = c.len-2.ensures ∙ w.code.ok.0 in
    rw (c.deref.ensures.value, c.deref-2.ensures.value, len)
    (have_places _ _ _ _ _ _ (done (goal.at.copied_slots-requires c).In_ok-code))

pub new-requires-clause-formed : goal.new-requires-clause-formed
new-requires-clause-formed c =
    let w = c.in_ok-code.field-0 in
    let all = done (goal.at.new-requires-clause-formed c).In_ok-code in
    rw c.reverse.ensures.items (well_formed w.code.items w.count all.writing.coded (some_code _ _ _ _ _ _ all)
    (omega (arith, c.len.ensures, c.if-len-gt-MAX_SLOTS.false, w.code.ok.0)))

pub returns-then-len-gt-MAX_SLOTS-clause-refused : goal.returns-then-len-gt-MAX_SLOTS-clause-refused
returns-then-len-gt-MAX_SLOTS-clause-refused c =
    let w = c.in_ok-code.field-0 in (
      reverse w.code.items,
      laid_out (goal.at.returns-then-len-gt-MAX_SLOTS-clause-refused c).In_ok-code,
      omega (arith, length-reverse w.code.items, c.len.ensures, c.if-len-gt-MAX_SLOTS.true, w.code.ok.0),
    )

pub returns-clause-laid_out : goal.returns-clause-laid_out
returns-clause-laid_out c = rw (c.new.ensures, c.reverse.ensures.items) (laid_out (goal.at.returns-clause-laid_out c).In_ok-code)

pub returns-clause-alike : goal.returns-clause-alike
returns-clause-alike c =
    rw (c.new.ensures, c.reverse.ensures.items) (run_alike c.args.program.now _ (laid_out (goal.at.returns-clause-alike c).In_ok-code))

pub returns-clause-fine : goal.returns-clause-fine
returns-clause-fine c =
    let h = (goal.at.returns-clause-fine c).In_ok-code in
    let all = done h in
    rw (c.new.ensures, c.reverse.ensures.items)
    (flow_is_fine c.args.program.now _ (laid_out h) all.ordered.formed all.fine (λ k i e. jumps_forward _ _ _ _ _ _ k i all e))

pub returns-clause-laid_as : goal.returns-clause-laid_as
returns-clause-laid_as c =
    let w = c.in_ok-code.field-0 in
    let even : length c.in_ok-of.of.items ≡ length w.code.items = c.in_ok-of.ensures.all ∙ c.len-2.ensures ∙ w.code.ok.0 in
    let copied = rw (c.deref.ensures.value, c.deref-2.ensures.value) at c.in_ok-of.ensures.copied in
    rw (c.new.ensures, c.reverse.ensures.items, c.reverse-2.ensures.items)
    (is_laid_as _ _ _ _ _ _ _ (done (goal.at.returns-clause-laid_as c).In_ok-code) even copied)

pub returns-then-branch-clause-laid_out : goal.returns-then-branch-clause-laid_out
returns-then-branch-clause-laid_out c = c.in_ok-as_it_is.ensures.laid_as.laid_out

pub returns-then-branch-clause-fine : goal.returns-then-branch-clause-fine
returns-then-branch-clause-fine c =
    subst (λ (q : List (Option Insn)). flow_fault q ≡ None) (sym c.in_ok-as_it_is.ensures.same) (c.in_ok-is_in_order.ensures.yes c.if-branch.true)

pub returns-then-branch-clause-alike : goal.returns-then-branch-clause-alike
returns-then-branch-clause-alike c = run_alike c.args.program.now _ c.in_ok-as_it_is.ensures.laid_as.laid_out
