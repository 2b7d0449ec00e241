use Rattle.std.proofs.Common.{◌+◌, ℕ, sym, ap, ◌∙◌, subst, arith, length}
use Rattle.std.proofs.lemmas.List.{length_push}
use Rattle.ebpf_insn.specs.Program.{insn_at}
use Rattle.ebpf_layout.specs.Search.{if_there}
use Rattle.ebpf_layout.specs.Writing.{AreOwn}
use Rattle.ebpf_layout.proofs.CopiedSlots.{own_more}
use Rattle.ebpf_layout.proofs.copied.own_slots.Goals as goal

pub loop-slot-preserved : goal.loop-slot-preserved
loop-slot-preserved c =
    let i = c.loop-slot.invariant in
    let p = c.args.program.now in
    let of = c.loop-slot.of.items in
    let pushed = c.push_reserved.ensures in
    let here = c.own_slot.ensures ∙ ap (λ (k : ℕ). if_there (insn_at p k) k) (sym i.long) in record {
      own = subst (AreOwn p) (sym pushed.items) (own_more p of c.own_slot.result here i.own);
      long = ap length pushed.items ∙ length_push of c.own_slot.result ∙ ap (λ (n : ℕ). n + 1) i.long;
      room = omega (arith, i.room, pushed.capacity);
      all = i.all;
    }
