use Rattle.std.proofs.Common.{refl, rules}
use Rattle.ebpf_lines.proofs.Sourced.{held_in}
use Rattle.ebpf_lines.proofs.source.held_lines.Goals as goal

pub returns-clause-held : goal.returns-clause-held
returns-clause-held c = held_in c.args.lines c.args.from c.in_ok-holding.holding.len c.at_slots.new.lines _ _ c.at_slots.ensures.each (search rules) refl
