use Rattle.std.proofs.Common.{◌≡◌, ℕ, None, length, refl, sym, ◌∙◌, subst, arith, rules}
use Rattle.ebpf_insn.specs.Faults.{lowest}
use Rattle.ebpf_insn.proofs.FaultLemmas.{lowest-zero, lowest-more_none, lowest_at}
use Rattle.ebpf_layout.specs.EdgeFaults.{edge_fault_at}
use Rattle.ebpf_link.proofs.Led.{led}
use Rattle.ebpf_link.proofs.link.check_edges.Goals as goal

pub loop-slot-init : goal.loop-slot-init
loop-slot-init c = record { none = lowest-zero (edge_fault_at c.args.program.now) }

pub returns-in-Some-clause-refused : goal.returns-in-Some-clause-refused
returns-in-Some-clause-refused c = (
  c.loop-slot.slot,
  c.in-Some.code,
  refl,
  lowest_at (edge_fault_at c.args.program.now) c.loop-slot.slot _ c.in-Some.code c.loop-slot.invariant.none (sym c.edge_fault.ensures ∙ c.in-Some.is)
      (omega (arith, c.loop-slot-test.true, c.slots-slot-end.ensures.value)),
)

pub loop-slot-preserved : goal.loop-slot-preserved
loop-slot-preserved c =
    let here : edge_fault_at c.args.program.now c.loop-slot.slot ≡ None = search rules in
    record { none = lowest-more_none (edge_fault_at c.args.program.now) c.loop-slot.slot c.loop-slot.invariant.none here }

pub returns-clause-led : goal.returns-clause-led
returns-clause-led c =
    let all : c.loop-slot.slot ≡ length c.args.program.now = omega (arith, c.loop-slot-test.false, c.slots-slot-end.ensures.value) in
    led c.args.program.now (subst (λ (n : ℕ). lowest (edge_fault_at c.args.program.now) n ≡ None) all c.loop-slot.invariant.none)
