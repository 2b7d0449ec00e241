use Rattle.std.proofs.Common.{◌≡◌, ℕ, zero, suc, ◌<◌, ◌≤◌, List, [], ◌∷◌, length, slice_index_or, slice_set, refl, ap, ◌∙◌, arith}
use Rattle.vmem_arena.specs.declared.segment.Tag.{Tag}
use Rattle.vmem_arena.specs.Segments.{with_before}
use Rattle.vmem_arena.proofs.segment.Table.set_before.Goals as goal

set_is : (ts : List Tag) (page len : ℕ) (d : Tag) → page < length ts
    → slice_set ts page (record (slice_index_or ts page d) { before = len }) ≡ with_before ts page len
set_is [] page len d within = refl
set_is (t ∷ ts) zero len d within = refl
set_is (t ∷ ts) (suc page) len d within = ap (λ us. t ∷ us) (set_is ts page len d (omega arith))

past_is : (ts : List Tag) (page len : ℕ) → length ts ≤ page → ts ≡ with_before ts page len
past_is [] page len past = refl
past_is (t ∷ ts) zero len past = absurd (omega arith)
past_is (t ∷ ts) (suc page) len past = ap (λ us. t ∷ us) (past_is ts page len (omega arith))

pub returns-then-page-len : goal.returns-then-page-len
returns-then-page-len c =
    let ts = c.self.inside.tags.items in
    let t = c.index_mut.result.now in
    rw (← c.self.view_is) (ap (λ (s : Tag). slice_set ts c.args.page (record s { before = c.args.len })) c.index_mut.ensures.value ∙ set_is ts c.args.page c.args.len t (omega arith))

pub returns-else-page-len : goal.returns-else-page-len
returns-else-page-len c = rw (← c.self.view_is) (past_is c.self.inside.tags.items c.args.page c.args.len (omega arith))
