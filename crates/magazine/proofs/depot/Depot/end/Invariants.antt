use Rattle.std.proofs.Common.{◌≡◌, [], vec_len}
use Rattle.std.specs.List.{All}
use Rattle.magazine.proofs.depot.Depot.end.Given as goal

abbrev pub invariant-loop-magazine : goal.invariant-loop-magazine
invariant-loop-magazine g l = All (λ m. m ≡ []) l.empty.items

abbrev pub decreases-loop-magazine : goal.decreases-loop-magazine
decreases-loop-magazine g l = vec_len l.empty
