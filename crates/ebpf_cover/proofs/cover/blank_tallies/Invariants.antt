use Rattle.std.proofs.Common.{◌≡◌, length}
use Rattle.ebpf_cover.specs.Stretches.{IsTally}
use Rattle.ebpf_cover.specs.Tallies.{AreBlank, Each}
use Rattle.ebpf_cover.proofs.cover.blank_tallies.Given as goal

abbrev pub invariant-made : goal.invariant-made
invariant-made l = record {
  long : length l.tallies.items ≡ l.program;
  each : Each (λ program s t. IsTally s.program t) l.fn.accepted l.tallies.items;
  blank : AreBlank l.fn.accepted l.tallies.items;
}
