use Rattle.std.proofs.Common.{refl, rules}
use Rattle.ebpf_command.proofs.KindLemmas.{AreRows-kinds}
use Rattle.ebpf_forward.proofs.loops.stuck.Goals as goal

pub long_loop-requires : goal.long_loop-requires
long_loop-requires c = AreRows-kinds c.args.kinds.now c.requires

pub returns : goal.returns
returns c = record {
  found = c.in_ok-found.found;
  turns = record { count = c.in_ok-found.found.turns; exits = c.in_ok-exits.exits };
  edge_is = refl;
  why_is = search rules;
  walked = refl;
  turns_are = record { count_is = refl; exits_are = search rules };
}
