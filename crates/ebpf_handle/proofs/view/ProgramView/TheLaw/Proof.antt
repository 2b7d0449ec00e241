-- A `&` to a handle is made where one to its `Arc` is. Assumes `Logic`.
use Rattle.std.proofs.Common.{[]}
use base.Fml.{Incl-refl}
use denote.Param.Laws.{Laws}
use denote.Param.Shared.{copy_shared}
use denote.Shares.{Shares-less}
use denote.Struct.Field.{RawPtr-field}
use denote.Struct.Laws.{RawPtr-copy}
use denote.Struct.Lending.{of_Lends}
use Rattle.std.proofs.alloc.Global.TheLaws as global_laws
use Rattle.std.proofs.sync.Arc.TheLaws as arc_laws
use Rattle.std.specs.contracts.impls.GlobalAllocator.TheImpl.{ghosts}
use Rattle.std.specs.contracts.alloc.Global.{the_row as heap_row}
use Rattle.ebpf_host.specs.contracts.program.Program.{the_row as program_row}
use Rattle.ebpf_host.proofs.program.Program.TheLaws as program_laws
use Rattle.ebpf_handle.specs.Rows.{shared_row}
use Rattle.ebpf_handle.specs.contracts.view.ProgramView as C
use Rattle.ebpf_handle.proofs.Lent.{held_lent_laws, Lends-held}
use Rattle.ebpf_handle.proofs.view.ProgramView.TheLaw.Statement.{statement}

laws : Laws shared_row
laws = arc_laws.the_row_laws program_row heap_row ghosts program_laws.the_row_laws global_laws.the_row_laws

pub shares : statement
shares = of_Lends C.struct C.the_codes C.the_heap C.the_lent (λ d p. held_lent_laws shared_row laws.shr_laws d.at d.value) (copy_shared RawPtr-field RawPtr-copy, tt)
    (λ M 𝓤 𝓛 d p. let l = (C.the_row).lives in
    Lends-held 𝓛 shared_row l (λ x. Shares-less 𝓛 shared_row shared_row.lives l (Incl-refl []) (laws.shares 𝓛) x) d.at d.value)
