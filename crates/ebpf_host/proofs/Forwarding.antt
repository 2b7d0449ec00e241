-- From why a program is not loaded to why its bytes are not.
use Rattle.std.proofs.Common.{◌≡◌, ℕ, List, Option, None}
use Rattle.ebpf_insn.specs.declared.insn.Insn.{Insn}
use Rattle.ebpf_insn.specs.Decoding.{decode_fault}
use Rattle.ebpf_insn.specs.Encoding.{IsProgram}
use Rattle.ebpf_state.specs.declared.kinds.KindRow.{KindRow}
use Rattle.ebpf_verify.specs.declared.decl.Decl.{Decl}
use Rattle.ebpf_host.specs.declared.refusal.Refusal.{Refusal}
use Rattle.ebpf_host.specs.declared.refusal.LoadFault.{LoadFault}
use Rattle.ebpf_host.specs.declared.refusal.LoadFault.TheVariants as fault
use Rattle.ebpf_host.specs.Loading.{AreDeclared, IsFaultBy}
use Rattle.ebpf_host.specs.Unrolled.{IsForwardLoadFault, IsProgramRefused}

-- how a load's refusals are seen
pub IsFaultBy-weaker : (P Q : Refusal → Type 0) (context held : ℕ) → ((r : Refusal) → P r → Q r)
    → (e : LoadFault) → IsFaultBy P context held e → IsFaultBy Q context held e
IsFaultBy-weaker P Q context held f (fault.Refused r) h = f r h
IsFaultBy-weaker P Q context held f fault.Declaration h = h
IsFaultBy-weaker P Q context held f fault.NoMemory h = h

pub forward_fault : (bytes : List ℕ) (context held : ℕ) (decl : Decl) (rows : List KindRow) (p : List (Option Insn))
    → AreDeclared context held decl rows → decode_fault bytes ≡ None → IsProgram bytes p
    → (e : LoadFault) → IsFaultBy (IsProgramRefused p decl rows) decl.context decl.held e → IsForwardLoadFault bytes context held e
forward_fault bytes context held decl rows p declared fine is (fault.Refused r) h =
    record { decl = decl; rows = rows; declared = declared; is = rw fine (p, is, h) }
forward_fault bytes context held decl rows p declared fine is fault.Declaration h = rw (declared.context_is, declared.held_is) at h
forward_fault bytes context held decl rows p declared fine is fault.NoMemory h = rw (declared.context_is, declared.held_is) at h
