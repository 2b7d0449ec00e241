use Rattle.std.proofs.Common.{◌≡◌, ◌+◌, ◌≤◌, [], ◌∙◌, map, refl, sym, ap, subst, arith}
use Rattle.std.specs.Prelude.{slice_index, slice_index_or}
use Rattle.std.proofs.lemmas.List.{nil_from_length}
use Rattle.slab_layer.specs.SlabTable.{page_of, pages_in}
use Rattle.slab_layer.proofs.Pages.{vacant_more, numbered_more}
use Rattle.slab_layer.proofs.slab_tables.add_vacant.Goals as goal

pub loop-page-init : goal.loop-page-init
loop-page-init g c =
    let slabs = c.args.slabs.now in
    let none : slabs.items ≡ [] = nil_from_length slabs.items (sym slabs.ok.0 ∙ c.requires.none) in record {
      all = c.requires.none;
      room = c.requires.room;
      vacant = λ p. subst (λ xs. slice_index_or (pages_in xs) p [] ≡ []) (sym none) refl;
      numbered = λ p low. absurd (omega arith);
    }

pub loop-page-preserved : goal.loop-page-preserved
loop-page-preserved g c =
    let l = c.loop-page in
    let p = c.push_reserved.ensures in record {
      all = p.len ∙ ap (λ n. n + 1) l.invariant.all;
      room = subst (λ n. 256 ≤ n) (sym p.capacity) l.invariant.room;
      vacant = λ q. subst (λ xs. slice_index_or (pages_in xs) q [] ≡ []) (sym p.items) (vacant_more l.slabs.items c.vacant.result l.invariant.vacant c.vacant.ensures.places q);
      numbered = λ q low. subst (λ xs. slice_index (map page_of xs) q ≡ q) (sym p.items) (numbered_more l.slabs.items c.vacant.result l.page (sym l.slabs.ok.0 ∙ l.invariant.all) l.invariant.numbered c.vacant.ensures.page q low);
    }
