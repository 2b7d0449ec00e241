use Rattle.std.proofs.Common.{◌≡◌, ◌<◌, ◌≤◌, ℕ, length, slice_index_or, vec_capacity, false, None, Some}
use Rattle.std.specs.Prelude.{slice_get}
use Rattle.ebpf_insn.specs.Faults.{lowest}
use Rattle.ebpf_flow.specs.Edges.{edges_at, reached_by}
use Rattle.ebpf_flow.specs.Flow.{flow_fault_at, LeadsForward}
use Rattle.ebpf_flow.proofs.check.edges_in.Given as goal

abbrev pub invariant-loop-slot : goal.invariant-loop-slot
invariant-loop-slot l = record {
  few : l.slots ≤ 4096;
  all : l.slots ≡ length l.fn.program;
  flags : length l.reached.items ≡ l.slots;
  reached : (k : ℕ) → k < l.slots → slice_index_or l.reached.items k false ≡ reached_by l.fn.program l.slot k;
  len : length l.edges.items ≡ l.slot;
  room : vec_capacity l.edges ≡ l.slots;
  fine : lowest (flow_fault_at l.fn.program) l.slot ≡ None;
  forward : (k : ℕ) → k < l.slot → LeadsForward l.fn.program k (edges_at l.fn.program k).fall × LeadsForward l.fn.program k (edges_at l.fn.program k).jump;
  each : (k : ℕ) → k < l.slot → slice_get l.edges.items k ≡ Some (edges_at l.fn.program k);
}
