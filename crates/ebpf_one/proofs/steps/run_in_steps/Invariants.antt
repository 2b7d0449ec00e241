use Rattle.std.proofs.Common.{◌-◌, length, string_bytes}
use Rattle.ebpf_insn.specs.Program.{instructions}
use Rattle.ebpf_one.proofs.Tracing.{IsTraced}
use Rattle.ebpf_one.proofs.steps.run_in_steps.Given as goal

abbrev pub invariant-steps : goal.invariant-steps
invariant-steps l = IsTraced l.fn.format l.fn.choice l.fn.how.source l.fn.how.nulls l.fn.verified l.fn.context.items l.initial.store l.store l.initial.run l.run l.last (string_bytes l.fn.text) (string_bytes l.text)

abbrev pub decreases-steps : goal.decreases-steps
decreases-steps l = length (instructions l.fn.verified.program) - l.run.executed
