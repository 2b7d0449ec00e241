use Rattle.std.proofs.Common.{◌≡◌, ℕ, None, length, get_or, ap, sym, ◌∙◌, subst, rules}
use Rattle.ebpf_machine.specs.RunState.{RunState}
use Rattle.ebpf_machine.proofs.WholeRuns.Starts.{starts}
use Rattle.ebpf_cover.specs.Answering.{answering}
use Rattle.ebpf_cover.specs.Stretches.{AreStraight}
use Rattle.ebpf_cover.proofs.Counting.{none_counted, stretch_counted, run_counted, inside_tally}
use Rattle.ebpf_cover.proofs.cover.count_run.Goals as goal

pub counting-init : goal.counting-init
counting-init c =
    let s = c.new-store.result in record {
      tally = c.requires.tally;
      counted =
          none_counted answering s _ _ c.in-Ok.run' _ _
          (starts answering s _ _ c.in-Ok.run' c.in-Ok.ensures.started (c.in-Ok.ensures.sound (λ o. o.bytes.items)))
          (ap (λ (r : RunState _). r.executed) c.in-Ok.ensures.started);
    }

pub straight_from-more-requires-clause-inside : goal.straight_from-more-requires-clause-inside
straight_from-more-requires-clause-inside c =
    let going : c.counting.run.exit ≡ None = search rules in
    inside_tally answering _ _ c.args.verified.now _ c.counting.run c.counting.tally c.pc-first.result c.counting.invariant.counted.under going c.counting.invariant.tally c.pc-first.ensures.value

pub counting-preserved : goal.counting-preserved
counting-preserved c =
    let was = c.counting.tally in
    let is = c.note.new.self in
    let straight = ap (λ (slot : ℕ). get_or was.straight.items slot 0) (sym c.pc-first.ensures.value) ∙ sym c.straight_from-more.ensures.value in record {
      tally = record {
        wide = c.in_ok-note.ensures.wide;
        long = ap length c.in_ok-note.ensures.straight ∙ c.counting.invariant.tally.long;
        straight = subst (AreStraight c.args.verified.now.program) (sym c.in_ok-note.ensures.straight) c.counting.invariant.tally.straight;
      };
      counted =
          stretch_counted answering _ _ _ c.args.verified.now _ c.straight_from-more.result c.counting.run c.run_stretch.new.run _ _ was is (λ s o out. (out.sized.size, out.sized.known)) (sym c.requires.known)
          c.counting.invariant.tally straight c.counting.invariant.counted (c.run_stretch.ensures.turns c.if-not-run_stretch.false)
          (rw (← c.pc-first.ensures.value, ← c.pc.ensures.value) c.in_ok-note.ensures.noted);
    }

pub returns-clause-counted : goal.returns-clause-counted
returns-clause-counted c =
    let ended = c.end_in_place-ended.ensures in
    let report = c.args.report.now in
    run_counted answering _ _ _ _ c.counting.run _ _ _ _ c.end_in_place-ended.result report c.counting.invariant.counted ended.executed ended.answers ended.taken
    (let same : c.end_in_place-ended.result.executed ≡ report.executed = search rules in same)
    (let same : c.end_in_place-ended.result.answers ≡ report.answers = search rules in same)
    (let same : c.end_in_place-ended.result.taken ≡ report.taken = search rules in same)
