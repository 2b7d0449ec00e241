use Rattle.std.proofs.Common.{ℕ, List, [], ◌∷◌, replicate, sym, ap, ◌∙◌, subst}
use Rattle.owners_table.specs.Owning.{Owned, blank}
use Rattle.owners_table.specs.Place.{words_in}
use Rattle.owners_table.proofs.OwningStart.{begins}
use Rattle.owners_table.proofs.owners.Owners.new.Goals as goal

pub of_words-requires : goal.of_words-requires
of_words-requires c =
    let free = c.as_slice.ensures.value ∙ (c.in_ok-free.ensures.items_if_clones_equal (λ y e. e) ∙ ap (λ k. replicate k 0) (c.words_in.ensures ∙ ap words_in (sym c.from.ensures))) in
    subst (λ (ws : List ℕ). Owned c.from.result c.from-2.result record { words = ws; homes = []; views = replicate c.from-2.result blank ∷ [] }) (sym free) (begins c.from.result c.from-2.result)
