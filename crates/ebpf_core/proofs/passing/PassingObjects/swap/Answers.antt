use Rattle.ebpf_core.proofs.Shelving.{away_then}
use Rattle.ebpf_core.proofs.passing.PassingObjects.swap.Goals as goal

pub invariant_of-self : goal.invariant_of-self
invariant_of-self c =
    let p = c.args.self.now in
    record { image = p.image; known = p.known; away = away_then p.object c.exchange.ensures p.away c.requires.given }
