use Rattle.std.proofs.Common.{◌++◌, ◌∷◌, [], sym, ◌∙◌, arith}
use Rattle.ebpf_layout.proofs.Kept.{take_next}
use Rattle.ebpf_layout.proofs.layout.copy_of.Goals as goal

pub loop-slot-preserved : goal.loop-slot-preserved
loop-slot-preserved c =
    let i = c.loop-slot.invariant in
    let p = c.push_reserved.ensures in record {
      items = p.items ∙ ((λ j. i.items j ++ (c.copied.ensures ∙ c.at.ensures) j ∷ [])
          ∙ sym (take_next c.args.program.now c.loop-slot.slot (omega (arith, c.loop-slot-test.true, i.all))));
      room = omega (arith, i.room, p.capacity);
      all = i.all;
    }
