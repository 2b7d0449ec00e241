-- What a handle holds after what it lent was written.
use Rattle.std.specs.Prelude.{Option, Some}
use Rattle.std.specs.Borrow.{Fml, LendsIf, MutBor}
use Rattle.std.specs.declared.alloc.Global.{Global}
use Rattle.std.specs.declared.sync.Arc.{Arc}
use Rattle.ebpf_host.specs.contracts.machine.Machine.{the_row as machine_row}
use Rattle.ebpf_host.specs.contracts.shared.Shared.{the_row as common_row}
use Rattle.ebpf_host.specs.contracts.worker.Worker.{the_row as worker_row}
use Rattle.ebpf_host.specs.declared.program.Program.{Program}
use Rattle.ebpf_host.specs.declared.shared.Shared.{Shared}
use Rattle.ebpf_host.specs.declared.stocks.Stocks.{Stocks}
use Rattle.ebpf_host.specs.declared.worker.Worker.{Worker}
use Rattle.ebpf_handle.specs.Rows.{shared_row}
use Rattle.ebpf_handle.specs.declared.machine.MachineHandle.{MachineHandle}
use Rattle.ebpf_handle.specs.declared.program.ProgramHandle.{ProgramHandle}
use Rattle.ebpf_handle.specs.declared.shared.SharedHandle.{SharedHandle}
use Rattle.ebpf_handle.specs.declared.worker.WorkerHandle.{WorkerHandle}
use Rattle.ebpf_handle.specs.contracts.machine.MachineHandle.{the_row as handle_of_machine}
use Rattle.ebpf_handle.specs.contracts.program.ProgramHandle.{the_row as handle_of_program}
use Rattle.ebpf_handle.specs.contracts.shared.SharedHandle.{the_row as handle_of_shared}
use Rattle.ebpf_handle.specs.contracts.worker.WorkerHandle.{the_row as handle_of_worker}

-- the handle, holding this machine, this share of a program, this worker, or what workers share
abbrev pub with_machine : MachineHandle → Stocks → MachineHandle
with_machine h m = record h { value = Some m }

abbrev pub with_program : ProgramHandle → Arc Program Global → ProgramHandle
with_program h p = record h { value = Some p }

abbrev pub with_worker : WorkerHandle → Worker → WorkerHandle
with_worker h w = record h { value = Some w }

abbrev pub with_shared : SharedHandle → Shared → SharedHandle
with_shared h s = record h { value = Some s }

-- the handle holds in the end what was last written to what it lent, and stays as it was where it lent nothing
abbrev pub MachineLends : MutBor MachineHandle → Option (MutBor Stocks) → Fml
MachineLends h r = LendsIf handle_of_machine machine_row h r (with_machine h.now) h.now

abbrev pub ProgramLends : MutBor ProgramHandle → Option (MutBor (Arc Program Global)) → Fml
ProgramLends h r = LendsIf handle_of_program shared_row h r (with_program h.now) h.now

abbrev pub WorkerLends : MutBor WorkerHandle → Option (MutBor Worker) → Fml
WorkerLends h r = LendsIf handle_of_worker worker_row h r (with_worker h.now) h.now

abbrev pub SharedLends : MutBor SharedHandle → Option (MutBor Shared) → Fml
SharedLends h r = LendsIf handle_of_shared common_row h r (with_shared h.now) h.now
