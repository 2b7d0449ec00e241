use Rattle.std.proofs.Common.{◌+◌, All, length, sym, ap, subst, ◌∙◌, arith}
use Rattle.std.proofs.lemmas.List.{length_push}
use Rattle.std.proofs.lemmas.List.Elements.{All-push}
use Rattle.worker_pool.specs.Numbering.{IsBlank}
use Rattle.worker_pool.proofs.setup.blank_lists.Goals as goal

pub loop-list-preserved : goal.loop-list-preserved
loop-list-preserved c =
    let i = c.loop-list.invariant in
    let pushed = c.push_reserved.ensures in record {
      len = ap length pushed.items ∙ (length_push c.loop-list.lists.items _ ∙ ap (λ n. n + 1) i.len);
      room = omega (arith, i.room, pushed.capacity);
      empty = subst (All IsBlank) (sym pushed.items) (All-push IsBlank _ _ i.empty c.new.ensures);
    }
