-- Relocations (ELF, "Relocation"): an Elf64_Rel has 16 bytes. The section that they are for is the sh_info of theirs.
use Rattle.std.specs.Prelude.{ℕ, Bool, ◌+◌, ◌*◌, List, ◌==◌, nat_lt, cond}
use Rattle.ebpf_object_file.specs.declared.relocation.Relocation.{Relocation}
use Rattle.ebpf_object_file.specs.Field.{field}

-- the relocation of a number; r_info is the type in its low half and the symbol in its high one
abbrev pub relocation_of : List ℕ → ℕ → Relocation
relocation_of table k = record {
  offset = field 8 table (16 * k);
  kind = field 4 table (16 * k + 8);
  symbol = field 4 table (16 * k + 12);
}

-- How many bytes it may write, from its place on. R_BPF_64_64, type 1, writes into both slots of a 64-bit immediate; every
-- other type writes within eight bytes.
abbrev pub room : Relocation → ℕ
room r = cond (r.kind == 1) 16 8

-- it may write one of `size` bytes from an offset on
abbrev pub reaches : ℕ → ℕ → Relocation → Bool
reaches from size r = cond (nat_lt r.offset from) (nat_lt from (r.offset + room r)) (nat_lt r.offset (from + size))
