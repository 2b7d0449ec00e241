use Rattle.std.proofs.Common.{◌<◌, ◌-◌, ◌+◌, ◌*◌, length, slice_index_or, sym, arith}
use Rattle.std.proofs.lemmas.Nat.{from_le_bytes-to_le_bytes_2}
use Rattle.std.proofs.lemmas.List.{drop_all}
use Rattle.job_list.proofs.Packing.{all_are_packed, code_fits, next_is_packed, one_more_fits, within_two_bytes}
use Rattle.ebpf_machine.specs.declared.report.Reply.TheVariants.{Null}
use Rattle.job_list.specs.FewAnswers.{replies_from}
use Rattle.job_list.proofs.few_answers.FewAnswers.of.Goals as goal

-- the code of the next answer
next_fits : (c : goal.After-code_of) → c.code_of.result < 4
next_fits c = rw (c.code_of.ensures) (code_fits (slice_index_or c.args.answers.now (length c.args.answers.now - 1 - c.packing.done) Null))

pub packing-init : goal.packing-init
packing-init c = record {
  fits = grind arith;
  packed = unfold replies_from in sym (drop_all (length c.args.answers.now - 0) c.args.answers.now (grind arith));
}

pub overflow_mul-codes : goal.overflow_mul-codes
overflow_mul-codes c =
    let below : c.packing.codes * 4 + 0 < 65536 = within_two_bytes (c.packing.done + 1) (c.packing.codes * 4 + 0) (grind arith) (one_more_fits c.packing.done c.packing.codes 0 c.packing.invariant.fits (grind arith)) in
    grind arith

pub overflow_add-codes : goal.overflow_add-codes
overflow_add-codes c =
    let below : c.packing.codes * 4 + c.code_of.result < 65536 = within_two_bytes (c.packing.done + 1) (c.packing.codes * 4 + c.code_of.result) (grind arith) (one_more_fits c.packing.done c.packing.codes c.code_of.result c.packing.invariant.fits (next_fits c)) in
    grind arith

pub packing-preserved : goal.packing-preserved
packing-preserved c = record {
  fits = one_more_fits c.packing.done c.packing.codes c.code_of.result c.packing.invariant.fits (next_fits c);
  packed = next_is_packed c.args.answers.now c.packing.done c.packing.codes c.code_of.result Null c.packing-test.true c.packing.invariant.packed c.code_of.ensures;
}

pub returns : goal.returns
returns c =
    let below : c.packing.codes < 65536 = within_two_bytes c.packing.done c.packing.codes (grind arith) c.packing.invariant.fits in
    rw (c.to_le_bytes.ensures, from_le_bytes-to_le_bytes_2 c.packing.codes below) (all_are_packed c.args.answers.now c.packing.done c.packing.codes c.packing.auto.done-end c.packing-test.false c.packing.invariant.packed)
