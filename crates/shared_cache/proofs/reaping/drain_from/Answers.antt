use Rattle.std.proofs.Common.{ap}
use Rattle.shared_row.specs.Views.{PassView}
use Rattle.shared_cache.proofs.reaping.drain_from.Goals as goal

pub put-requires-clause-open : goal.put-requires-clause-open
put-requires-clause-open g c = (_, ap (λ (v : PassView). v.out) c.in-Some.ensures.taken)
