use Rattle.std.proofs.Common.{◌≡◌, ◌≤◌, ◌<◌, ◌-◌, length, arith}
use Rattle.std.proofs.lemmas.List.{length-set}
use Rattle.job_list.proofs.Packing.{all_are_unpacked, one_is_unpacked}
use Rattle.job_list.proofs.few_answers.FewAnswers.replies.Goals as goal

-- there is room for the next answer
inside : (c : goal.After-reply_of) → c.unpacking.done < length c.unpacking.room
inside c =
    let few : c.self.inside.count ≤ 8 = c.self.invariant in
    let counted : c.from-count.result ≡ c.self.inside.count = c.from-count.ensures in
    let sized : length c.unpacking.room ≡ 8 = c.unpacking.invariant.sized in
    let more : c.unpacking.done < c.from-count.result = c.unpacking-test.true in
    grind arith

pub unpacking-init : goal.unpacking-init
unpacking-init c = record {
  sized = c.told-room;
  unpacked =
      let none : c.self.inside.count - 0 ≡ c.self.inside.count = grind arith in
      rw (c.from-count.ensures, c.from_le_bytes-codes.ensures, none) c.self.view_is;
}

pub unpacking-preserved : goal.unpacking-preserved
unpacking-preserved c = record {
  sized = rw (length-set c.unpacking.room c.unpacking.done c.reply_of.result) c.unpacking.invariant.sized;
  unpacked = one_is_unpacked c.unpacking.room c.unpacking.done c.from-count.result c.unpacking.codes c.args.self.now c.reply_of.result (inside c) c.unpacking-test.true c.unpacking.invariant.unpacked c.reply_of.ensures;
}

pub returns : goal.returns
returns c = all_are_unpacked c.unpacking.room c.unpacking.done c.from-count.result c.unpacking.codes c.args.self.now c.unpacking.auto.done-end c.unpacking-test.false c.unpacking.invariant.unpacked
