use Rattle.std.proofs.Common.{◌≡◌, ◌++◌, [], map}
use Rattle.std.specs.Prelude.{All}
use Rattle.ebpf_stream.proofs.setup.load_all.Given as goal

abbrev pub invariant-loop-verified : goal.invariant-loop-verified
invariant-loop-verified l = record {
  kept : map (λ p. p.verified) l.programs.items ++ l.verified-iterator.rest.items ≡ l.fn.accepted.items;
  alone : All (λ p. p.data.items ≡ []) l.programs.items;
}
