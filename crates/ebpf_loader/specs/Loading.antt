-- A function as a program, and its data after the context.
use Rattle.std.specs.Prelude.{◌≡◌, ◌+◌, ◌<◌, ℕ, List, Option, Some}
use Rattle.ebpf_insn.specs.declared.insn.Insn.{Insn}
use Rattle.ebpf_insn.specs.Decoding.{decode_fault}
use Rattle.ebpf_insn.specs.Encoding.{IsProgram}
use Rattle.ebpf_object_file.specs.declared.data_function.DataFunction.{DataFunction}
use Rattle.ebpf_object_file.specs.declared.data_parts.Data.{Data}
use Rattle.ebpf_object_file.specs.DataParts.{HasParts, IsLaid, bytes_in}
use Rattle.ebpf_state.specs.declared.kinds.KindRow.{KindRow}
use Rattle.ebpf_verify.specs.declared.decl.Decl.{Decl}
use Rattle.ebpf_verify.specs.declared.decl.TheConstants.{MAX_CONTEXT}
use Rattle.ebpf_link.specs.declared.fault.LinkFault.{LinkFault}
use Rattle.ebpf_link.specs.declared.linked.Linked.{Linked}
use Rattle.ebpf_link.specs.Choice.{IsLinkedBy, IsChoiceFault, wanted}
use Rattle.ebpf_loader.specs.declared.fault.LoadFault.{LoadFault}
use Rattle.ebpf_loader.specs.declared.fault.LoadFault.TheVariants as fault
use Rattle.ebpf_loader.specs.declared.load.Loaded.{Loaded}

-- what is declared of a context and the data after it, of this many bytes
pub record IsWhole (decl : Decl) (size : ℕ) (whole : Decl) : Type 0 where
  pub context : whole.context ≡ decl.context + size
  pub held : whole.held ≡ decl.held

-- a program is linked with its data, which begins where the context ends
pub record IsLinkedWith (file : List ℕ) (p : List (Option Insn)) (laid : Data) (decl whole : Decl) (rows : List KindRow) (l : Loaded) : Type 0 where
  pub linked : Linked
  pub is : IsLinkedBy (wanted p laid.offsets.items decl.context whole rows) linked.word linked.program
  pub encoded : IsProgram l.bytes.items linked.program
  pub after : l.data.items ≡ bytes_in file laid
  pub declared : l.decl ≡ whole
  pub word : l.word ≡ linked.word

-- the program that the function's bytes are, with the data that its slots use
pub record IsLoadedWith (file : List ℕ) (f : DataFunction) (decl : Decl) (rows : List KindRow) (l : Loaded) : Type 0 where
  pub program : List (Option Insn)
  pub decoded : IsProgram f.function.code.now program
  pub laid : Data
  pub is_laid : IsLaid file f.uses.items laid
  pub whole : Decl
  pub is_whole : IsWhole decl laid.size whole
  pub is : IsLinkedWith file program laid decl whole rows l

-- why a program isn't linked
abbrev pub IsUnlinkedFault : List (Option Insn) → Data → (decl whole : Decl) → List KindRow → LoadFault → Type 0
IsUnlinkedFault p laid decl whole rows (fault.Unlinked q e) = (q ≡ p) × IsChoiceFault (wanted p laid.offsets.items decl.context whole rows) e
IsUnlinkedFault p laid decl whole rows fault.NoMemory = Unit {0}
IsUnlinkedFault p laid decl whole rows _ = ⊥

pub record IsUnlinked (file : List ℕ) (f : DataFunction) (decl : Decl) (rows : List KindRow) (p : List (Option Insn)) (e : LinkFault) : Type 0 where
  pub decoded : IsProgram f.function.code.now p
  pub laid : Data
  pub is_laid : IsLaid file f.uses.items laid
  pub whole : Decl
  pub is_whole : IsWhole decl laid.size whole
  pub fault : IsChoiceFault (wanted p laid.offsets.items decl.context whole rows) e

-- there is more data than there is room for
pub record IsTooLong (file : List ℕ) (f : DataFunction) (decl : Decl) (context : ℕ) (laid : Data) : Type 0 where
  pub context_is : context ≡ decl.context
  pub is_laid : IsLaid file f.uses.items laid
  pub parts : HasParts file laid
  pub long : MAX_CONTEXT < decl.context + laid.size

abbrev pub IsLoadFault : List ℕ → DataFunction → Decl → List KindRow → LoadFault → Type 0
IsLoadFault file f decl rows (fault.Undecoded slot code) = decode_fault f.function.code.now ≡ Some (slot, code)
IsLoadFault file f decl rows (fault.TooLong context laid) = IsTooLong file f decl context laid
IsLoadFault file f decl rows (fault.Unlinked p e) = IsUnlinked file f decl rows p e
IsLoadFault file f decl rows fault.NoMemory = Unit {0}
