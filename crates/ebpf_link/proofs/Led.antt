-- Where no slot of a program is refused for an edge, none past its end is.
use Rattle.std.proofs.Common.{◌≡◌, ℕ, List, length, Option, Some, None, refl, ap}
use Rattle.ebpf_insn.specs.declared.insn.Insn.{Insn}
use Rattle.ebpf_insn.specs.Faults.{lowest}
use Rattle.ebpf_insn.specs.Program.{insn_at}
use Rattle.ebpf_insn.proofs.FaultLemmas.{none_below}
use Rattle.ebpf_insn.proofs.ProgramLemmas.{insn_at_within}
use Rattle.ebpf_layout.specs.EdgeFaults.{edge_fault, edge_fault_at}

pub led : (p : List (Option Insn)) → lowest (edge_fault_at p) (length p) ≡ None → (slot : ℕ) → edge_fault_at p slot ≡ None
led p none slot = by_insn (insn_at p slot) refl where
  by_insn : (o : Option Insn) → insn_at p slot ≡ o → edge_fault_at p slot ≡ None
  by_insn None at = ap (edge_fault p slot) at
  by_insn (Some i) at = none_below (edge_fault_at p) (length p) none slot (insn_at_within p slot i at)
