use Rattle.std.proofs.Common.{◌≡◌, ◌∙◌, ℕ, length, ap, subst, arith}
use Rattle.ebpf_object_file.specs.Entries.{IsEntryAt, symbols_in}
use Rattle.ebpf_host_c.specs.Functions.{rows_below}
use Rattle.ebpf_host_c.proofs.Giving.{no_row, row_counted, row_given}
use Rattle.ebpf_host_c.proofs.functions.give.Goals as goal
use Rattle.ebpf_host_c.proofs.functions.give.Goals.{in-Some, in_default}

pub loop-number-preserved : goal.loop-number-preserved
loop-number-preserved c =
    let f = c.args.functions in
    let h = c.loop-number.invariant in
    let few = h.few in
    elim c.match-entry.branch [
      | in-Some w ↦ record {
        written = w.rows-is ∙ w.put.ensures ∙ row_given f _ _ _ _ _ w.in-Some.ensures.0 w.in-Some.ensures.1 h.counted h.written;
        counted = w.count-is ∙ row_counted f _ _ w.in-Some.ensures.0 h.counted;
        few = let one = w.count-is in omega (arith, few, one);
      }
      | in_default w ↦
          let none = no_row f _ (subst (IsEntryAt f c.loop-number.number) w.in_default.is c.entry.ensures) in
          record {
            written = w.rows-is ∙ rw none h.written;
            counted = w.count-is ∙ rw none h.counted;
            few = let same = w.count-is in omega (arith, few, same);
          }
    ]

pub returns-clause-count : goal.returns-clause-count
returns-clause-count c =
    let h = c.loop-number.invariant in
    let last = c.loop-number-test.false in
    let end = c.loop-number.auto.number-end in
    let size = c.symbol_count-number-end.ensures in
    let whole : c.loop-number.number ≡ symbols_in c.args.functions = omega (arith, last, end, size) in
    h.counted ∙ ap (λ (n : ℕ). length (rows_below c.args.functions n)) whole
