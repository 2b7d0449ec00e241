-- A handle of a program may go to another thread, since an `Arc` of a program may.
use denote.Struct.Struct.{exits_of}
use denote.Struct.Owning.{shape, fields, to}
use denote.Param.Send.{IsSend, AllSend, owning_send, struct_send, sendable}
use Rattle.std.proofs.Crossing.{Arc-send}
use Rattle.ebpf_host.specs.contracts.program.Program.{the_row as program_row}
use Rattle.ebpf_host.proofs.program.Program.TheSendSync.{the_send, the_sync}
use Rattle.ebpf_handle.specs.Rows.{shared_row}
use Rattle.ebpf_handle.specs.contracts.program.ProgramHandle.{the_row, the_type}
use Rattle.ebpf_handle.proofs.Crossing.{quiet, held_keyless}

shared_send : IsSend shared_row
shared_send = Arc-send program_row the_send the_sync

pub send : IsSend the_row
send = let all : AllSend (fields the_type) = (search sendable, tt) in
    owning_send the_type all (λ d. held_keyless shared_row shared_send d.at d.value) (λ k. quiet (to the_type) (exits_of k (fields the_type)) ((struct_send (shape the_type) all).leaving k))
