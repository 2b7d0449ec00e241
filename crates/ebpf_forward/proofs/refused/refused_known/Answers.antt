use Rattle.std.proofs.Common.{refl, rules}
use Rattle.ebpf_forward.proofs.refused.refused_known.Goals as goal

pub returns : goal.returns
returns c = record {
  judged = c.judged_by-judged.result.now;
  known = c.args.known.now.by_slots;
  visit = record { visit = c.args.at.visit; known = c.write_known.new.text };
  code_is = refl;
  slot_is = refl;
  why_is = search rules;
  at_visit = refl;
  visit_is = record { visit_is = refl; known_is = search rules };
}
