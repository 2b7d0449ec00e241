-- What a handle of a program owns.
use denote.RattleType.{RattleType}
use Rattle.std.specs.contracts.alloc.Global.{the_row as heap_row}
use Rattle.std.specs.contracts.impls.GlobalAllocator.TheImpl.{ghosts}
use Rattle.std.specs.contracts.sync.Arc.{the_row as arc_row}
use Rattle.ebpf_host.specs.contracts.program.Program.{the_row as program_row}

-- an `Arc` of a program
abbrev pub shared_row : RattleType
shared_row = arc_row program_row heap_row ghosts
