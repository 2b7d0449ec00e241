use Rattle.std.proofs.Common.{◌≡◌, ◌/◌, length, [], refl, ◌∙◌, arith}
use Rattle.std.proofs.Output.{has_written_append, has_written_of_eq, has_written_to_eq}
use Rattle.ebpf_object_file.proofs.Listing.{none_counted, none_named, one_counted, one_named, same_count, same_names, none_shown}
use Rattle.ebpf_object_file.proofs.functions.FunctionsDisplay.fmt.Goals as goal
use Rattle.ebpf_object_file.proofs.functions.FunctionsDisplay.fmt.Goals.{then-is_function+in_ok-write, else-is_function}

pub loop-number-init : goal.loop-number-init
loop-number-init g c = record {
  counted = none_counted _ _;
  few = omega arith;
  written = λ plain. has_written_of_eq _ _ _ _ _ (none_named _ _ _) (record { wrote = record { parts = []; calls = refl; whole = refl }; plain = plain });
}

pub loop-number-preserved : goal.loop-number-preserved
loop-number-preserved g c =
    let h = c.loop-number.invariant in
    let few = h.few in
    let is = c.symbol_of-symbol.ensures in
    let tested = c.is_function.ensures in
    elim c.if-is_function.branch [
      | then-is_function+in_ok-write w ↦ record {
        counted = w.count-is ∙ one_counted _ _ _ _ _ _ is tested w.if-is_function.true h.counted;
        few = let one = w.count-is in omega (arith, few, one);
        written = λ plain. has_written_to_eq _ _ _ _ _ w.f-is
            (has_written_of_eq _ _ _ _ _ (one_named _ _ _ _ _ _ _ _ is tested w.if-is_function.true h.counted w.text_at-bytes.ensures)
            (has_written_append _ _ _ _ _ _ (h.written plain) (w.write.ensures.writes (h.written plain).plain (let ok = w.in_ok-write.was in rw ok refl))));
      }
      | else-is_function w ↦ record {
        counted = w.count-is ∙ same_count _ _ _ _ _ _ is tested w.if-is_function.false h.counted;
        few = let one = w.count-is in omega (arith, few, one);
        written = λ plain. has_written_to_eq _ _ _ _ _ w.f-is
            (has_written_of_eq _ _ _ _ _ (same_names _ _ _ _ _ _ is tested w.if-is_function.false) (h.written plain));
      }
    ]

pub returns-then-count-eq0-clause-writes : goal.returns-then-count-eq0-clause-writes
returns-then-count-eq0-clause-writes g c = λ plain ok.
    let h = c.loop-number.invariant in
    let last = c.loop-number-test.false in
    let end = c.loop-number.auto.number-end in
    let whole : c.loop-number.number ≡ length c.args.self.now.symbols.now / 24 = omega (arith, last, end) in
    has_written_of_eq _ _ _ _ _ (none_shown c.args.self.now _ _ whole h.counted c.if-count-eq0.true)
    (has_written_append _ _ _ _ _ _ (h.written plain) (c.write_str.ensures.writes (h.written plain).plain ok))
