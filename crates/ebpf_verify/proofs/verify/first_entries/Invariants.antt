use Rattle.std.proofs.Common.{◌≡◌, ◌<◌, ℕ, length, slice_index_or}
use Rattle.std.specs.Prelude.{if◌then◌else◌, ◌==◌}
use Rattle.ebpf_state.specs.States.{first_state}
use Rattle.ebpf_verify.specs.declared.entry.EntryState.TheVariants.{Unreached, Known}
use Rattle.ebpf_verify.proofs.verify.first_entries.Given as goal

abbrev pub invariant-loop-slot : goal.invariant-loop-slot
invariant-loop-slot l = record {
  len : length l.entries.items ≡ l.slot;
  first : (k : ℕ) → k < l.slot → slice_index_or l.entries.items k Unreached ≡ (if k == 0 then Known first_state else Unreached);
}
