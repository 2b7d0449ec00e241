-- Threads may read one handle at once, since they may share an `Arc` of a program.
use Rattle.std.specs.Prelude.{Option, Some, None}
use base.Fml.{ftrue}
use base.Shift.{Keyless}
use denote.RattleType.{RattleType}
use denote.RawPtr.{Ptr, block_ptr, null_ptr, block_of, count_of, in_block}
use denote.Struct.Owning.{shape, to}
use denote.Param.Send.{IsSync, Common, struct_sync, sendable}
use denote.Builtin.{RawPtr}
use Rattle.std.proofs.Crossing.{Arc-sync}
use Rattle.ebpf_host.specs.contracts.program.Program.{the_row as program_row}
use Rattle.ebpf_host.proofs.program.Program.TheSendSync.{the_send, the_sync}
use Rattle.ebpf_handle.specs.Ownership.{held_lent}
use Rattle.ebpf_handle.specs.Rows.{shared_row}
use Rattle.ebpf_handle.specs.contracts.view.ProgramView.{the_row, the_type}

shared_sync : IsSync shared_row
shared_sync = Arc-sync program_row the_send the_sync

pointer : IsSync RawPtr
pointer = search sendable

there : (p : Ptr) → Keyless (in_block p ftrue)
there (block_ptr b o) = tt
there null_ptr = tt

seen_held : (R : RattleType) → IsSync R → (p : Ptr) (x : Option R.Denot) → Common (held_lent R p x)
seen_held R s p None κ = tt
seen_held R s p (Some x) κ = ((there p, s.shared x (block_of p) (count_of p) κ), tt)

pub sync : IsSync the_row
sync = record { shared = λ d b o κ. ((struct_sync (shape the_type) (pointer, tt)).shared (to the_type d) b o κ, seen_held shared_row shared_sync d.at d.value κ) }
