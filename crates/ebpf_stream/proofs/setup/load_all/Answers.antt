use Rattle.std.proofs.Common.{arith, ◌≡◌, [], List, subst, sym}
use Rattle.std.proofs.lemmas.Grind.{common_steps}
use Rattle.std.specs.Prelude.{All}
use Rattle.ebpf_host.specs.declared.program.Program.{Program}
use Rattle.ebpf_stream.proofs.AnswerLemmas.{alone_pushed}
use Rattle.ebpf_stream.proofs.setup.load_all.Goals as goal

pub loop-verified-preserved : goal.loop-verified-preserved
loop-verified-preserved c = record {
  kept = grind (arith, common_steps);
  alone = subst (λ (programs : List Program). All (λ p. p.data.items ≡ []) programs) (sym c.in_ok-push.ensures.items)
      (alone_pushed c.loop-verified.programs.items c.of.result c.loop-verified.invariant.alone c.of.ensures.alone);
}
