-- A handle of a shared may go to another thread, since a shared may.
use denote.Struct.Struct.{exits_of}
use denote.Struct.Owning.{shape, fields, to}
use denote.Param.Send.{IsSend, AllSend, owning_send, struct_send, sendable}
use Rattle.ebpf_host.specs.contracts.shared.Shared.{the_row as common_row}
use Rattle.ebpf_host.proofs.shared.Shared.TheSendSync.{the_send}
use Rattle.ebpf_handle.specs.contracts.shared.SharedHandle.{the_row, the_type}
use Rattle.ebpf_handle.proofs.Crossing.{quiet, held_keyless}

pub send : IsSend the_row
send = let all : AllSend (fields the_type) = (search sendable, tt) in
    owning_send the_type all (λ d. held_keyless common_row the_send d.at d.value) (λ k. quiet (to the_type) (exits_of k (fields the_type)) ((struct_send (shape the_type) all).leaving k))
