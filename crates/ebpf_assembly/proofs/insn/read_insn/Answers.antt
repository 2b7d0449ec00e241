use Rattle.std.proofs.Common.{List, ℕ, ap, map, Bor}
use Rattle.ebpf_assembly.proofs.InsnWords.{insn_unread, insn_read}
use Rattle.ebpf_assembly.proofs.insn.read_insn.Goals as goal

pub returns-in_err-read_kind : goal.returns-in_err-read_kind
returns-in_err-read_kind c =
    rw c.from_residual-in_err-read_kind.ensures
    (insn_unread _ _ _ (ap (λ (ws : List (Bor (List ℕ))). map (λ w. w.now) ws) c.in_ok-mnemonic.ensures.cases.0) c.in_err-read_kind.ensures)

pub returns : goal.returns
returns c =
    insn_read _ _ _ c.in_ok-read_kind.field-0 c.with_operands.result (ap (λ (ws : List (Bor (List ℕ))). map (λ w. w.now) ws) c.in_ok-mnemonic.ensures.cases.0)
    c.in_ok-read_kind.ensures.0 c.in_ok-read_kind.ensures.1 c.with_operands.ensures
