use Rattle.std.proofs.Common.{◌+◌, ℕ, ap}
use Rattle.ebpf_context.proofs.ReadWhole.{read_whole, read_rest}
use Rattle.ebpf_context.proofs.text.read_context.Goals as goal

pub returns-clause-read : goal.returns-clause-read
returns-clause-read g c =
    read_whole _ _ _ _ _ (ap (λ (n : ℕ). n + 1) c.unwrap_or-most.ensures) c.in_ok-given.ensures.read c.in_ok-context_text.ensures.text

pub returns-clause-consumed : goal.returns-clause-consumed
returns-clause-consumed g c =
    read_rest _ _ _ _ c.args.declared (ap (λ (n : ℕ). n + 1) c.unwrap_or-most.ensures) c.in_ok-given.ensures.read c.in_ok-given.ensures.consumed
