-- Which slots are reached, one slot after another, and the fault that a slot adds.
use Rattle.std.proofs.Common.{◌≡◌, ℕ, ◌+◌, ◌<◌, List, length, Bool, Option, Some, None, refl, add-one}
use Rattle.std.specs.Prelude.{◌==◌, ◌&&◌, ◌||◌}
use Rattle.ebpf_insn.specs.declared.insn.Insn.{Insn}
use Rattle.ebpf_insn.specs.Faults.{lowest}
use Rattle.ebpf_insn.proofs.FaultLemmas.{lowest_at}
use Rattle.ebpf_flow.specs.declared.fault.FlowCode.{FlowCode}
use Rattle.ebpf_flow.specs.declared.fault.FlowFault.{FlowFault}
use Rattle.ebpf_flow.specs.declared.fault.FlowFault.TheVariants.{Bad}
use Rattle.ebpf_flow.specs.Edges.{reached_by, has_edge_to, edges_at}
use Rattle.ebpf_flow.specs.Flow.{flow_fault_at, IsFlowFault}

pub reached_by-none : (p : List (Option Insn)) (k : ℕ) → reached_by p 0 k ≡ (k == 0)
unfolding reached_by
reached_by-none p k = refl

pub reached_by-more : (p : List (Option Insn)) (m k : ℕ) (old : Bool) → old ≡ reached_by p m k
    → ((reached_by p m m && has_edge_to (edges_at p m) k) || old) ≡ reached_by p (m + 1) k
unfolding reached_by
reached_by-more p m k old e = rw (add-one, e) refl

-- the lowest slot that is refused decides
pub fault_here : (p : List (Option Insn)) (slot : ℕ) (fault : FlowFault) → slot < length p → lowest (flow_fault_at p) slot ≡ None
    → ((code : FlowCode) × (fault ≡ Bad slot code) × (flow_fault_at p slot ≡ Some code)) → IsFlowFault p fault
fault_here p slot fault inside before h = rw h.1 (lowest_at (flow_fault_at p) slot (length p) h.0 before h.2 inside)
