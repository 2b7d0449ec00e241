use Rattle.std.proofs.Common.{◌≡◌, ◌≤◌, ◌<◌, ℕ, length, slice_index_or, None}
use Rattle.ebpf_insn.specs.Faults.{lowest}
use Rattle.ebpf_verify.specs.declared.entry.EntryState.TheVariants.{Unreached}
use Rattle.ebpf_verify.specs.Entry.{arrived}
use Rattle.ebpf_verify.specs.Verdict.{refusal_at}
use Rattle.ebpf_verify.proofs.verify.walk.Given as goal

abbrev pub invariant-loop-slot : goal.invariant-loop-slot
invariant-loop-slot l = record {
  all : l.slots ≡ length l.fn.flowed;
  len : length l.entries.items ≡ l.slots;
  came : (t : ℕ) → l.slot ≤ t → t < l.slots → slice_index_or l.entries.items t Unreached ≡ arrived l.fn.flowed l.slot t;
  fine : lowest (refusal_at (record { program = l.fn.flowed; decl = l.fn.decl; rows = l.fn.kinds })) l.slot ≡ None;
}
