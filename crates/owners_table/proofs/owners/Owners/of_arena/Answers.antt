use Rattle.std.proofs.Common.{ℕ, [], ◌∷◌, replicate, sym, subst}
use Rattle.owners_table.specs.Owning.{Owned, blank}
use Rattle.owners_table.specs.declared.owners.TheConstants.{ARENA_SLOTS}
use Rattle.owners_table.proofs.OwningStart.{begins}
use Rattle.owners_table.proofs.owners.Owners.of_arena.Goals as goal

pub of_words-requires : goal.of_words-requires
of_words-requires c =
    subst (λ (n : ℕ). Owned n c.from-2.result record { words = replicate 65537 0; homes = []; views = replicate c.from-2.result blank ∷ [] }) (sym c.from.ensures) (begins ARENA_SLOTS c.from-2.result)
