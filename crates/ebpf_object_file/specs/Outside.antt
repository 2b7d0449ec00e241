-- What a function's bytes refer to outside of them: by a relocation, or by a call of a place.
use Rattle.std.specs.Prelude.{ℕ, Bool, ◌≡◌, ◌⊎◌, ◌<◌, ◌+◌, ◌-◌, ◌*◌, ◌/◌, ◌%◌, true, List, [], ◌∷◌, length, Option, Some, None, unwrap_or, ◌==◌, ◌||◌, cond}
use Rattle.ebpf_object_file.specs.declared.symbol.Symbol.{Symbol}
use Rattle.ebpf_object_file.specs.declared.outside.Place.{Place}
use Rattle.ebpf_object_file.specs.declared.outside.Outside.{Outside}
use Rattle.ebpf_object_file.specs.declared.outside.Target.{Target}
use Rattle.ebpf_object_file.specs.declared.outside.Target.TheVariants as target
use Rattle.ebpf_object_file.specs.declared.relocation.Relocation.{Relocation}
use Rattle.ebpf_object_file.specs.declared.fault.FileFault.{FileFault}
use Rattle.ebpf_object_file.specs.declared.fault.FileFault.TheVariants as fault
use Rattle.ebpf_object_file.specs.declared.section.Wanted.TheVariants.{RelocationsFor, AddendsFor}
use Rattle.ebpf_object_file.specs.First.{NoneBelow, IsFirst, IsOnly, AreTwo, Finds}
use Rattle.ebpf_object_file.specs.Section.{section_of, sections_in, wanted_in, bytes_of}
use Rattle.ebpf_object_file.specs.Text.{text_at}
use Rattle.ebpf_object_file.specs.Symbol.{symbol_of, symbol_or_null, is_in_file}
use Rattle.ebpf_object_file.specs.Relocation.{relocation_of, reaches}
use Rattle.ebpf_object_file.specs.Call.{is_call, called_at, is_called}
use Rattle.ebpf_object_file.specs.File.{name_limit}
use Rattle.ebpf_object_file.specs.Naming.{addend_at, name_of, size_of, IsDataOf}
use Rattle.ebpf_object_file.specs.Source.{named_section}

-- ".maps" and "maps": the section of a number has maps
abbrev pub is_maps : List ℕ → ℕ → Bool
is_maps file i = named_section file (46 ∷ 109 ∷ 97 ∷ 112 ∷ 115 ∷ []) i || named_section file (109 ∷ 97 ∷ 112 ∷ 115 ∷ []) i

-- the bytes of a number
abbrev pub is_scalar : ℕ → Bool
is_scalar size = size == 1 || size == 2 || size == 4 || size == 8

-- What data of that many bytes is, by the flags of its section: SHF_EXECINSTR is 4, SHF_WRITE is 1, SHF_STRINGS is 32.
abbrev pub target_by : (flags size : ℕ) → Target
target_by flags size =
    cond (flags / 4 % 2 == 1) target.Function
    (cond (flags % 2 == 1) target.Variable
    (cond (flags / 32 % 2 == 1) target.StringLiteral
    (cond (is_scalar size) target.Scalar target.Table)))

abbrev pub target_in : List ℕ → (section size : ℕ) → Target
target_in file section size = cond (is_maps file section) target.Map (target_by (section_of file section).flags size)

-- what a symbol is, which means the data of a number, if there is such
abbrev pub target_of : (file symbols : List ℕ) → Symbol → Option ℕ → Target
target_of file symbols s meant = cond (is_in_file (sections_in file) s) (target_in file s.section (size_of symbols s meant)) target.External

-- a relocation reaches the place: one of a section of relocations for its section
pub record IsReached (file : List ℕ) (p : Place) (r : Relocation) : Type 0 where
  pub table : ℕ
  pub inside : table < sections_in file
  pub wanted : wanted_in file (RelocationsFor p.section) table ≡ true
  pub entry : ℕ
  pub there : entry < length (bytes_of file table) / 16
  pub is : r ≡ relocation_of (bytes_of file table) entry
  pub reaches : reaches p.from p.size r ≡ true

-- none does, and no section has relocations with addends for it
pub record HasNone (file : List ℕ) (p : Place) : Type 0 where
  pub none : (r : Relocation) → IsReached file p r → ⊥
  pub no_addends : NoneBelow (wanted_in file (AddendsFor p.section)) (sections_in file)

-- the relocations for the place's section, none where no section has them; and no section has those with addends
pub record AreRelocations (file : List ℕ) (p : Place) (table : List ℕ) : Type 0 where
  pub no_addends : NoneBelow (wanted_in file (AddendsFor p.section)) (sections_in file)
  pub are : (NoneBelow (wanted_in file (RelocationsFor p.section)) (sections_in file) × (table ≡ []))
      ⊎ ((i : ℕ) × IsOnly (wanted_in file (RelocationsFor p.section)) (sections_in file) i × (table ≡ bytes_of file i))

-- it is the first that does, of the only section of relocations for the place's section
pub record IsReachedFirst (file : List ℕ) (p : Place) (r : Relocation) : Type 0 where
  pub no_addends : NoneBelow (wanted_in file (AddendsFor p.section)) (sections_in file)
  pub table : ℕ
  pub only : IsOnly (wanted_in file (RelocationsFor p.section)) (sections_in file) table
  pub entry : ℕ
  pub first : IsFirst (λ k. reaches p.from p.size (relocation_of (bytes_of file table) k)) (length (bytes_of file table) / 16) entry
  pub is : r ≡ relocation_of (bytes_of file table) entry

-- why the relocations aren't read: first those with addends, SHT_RELA, then two sections of them
abbrev pub IsRelocationFault : List ℕ → Place → FileFault → Type 0
IsRelocationFault file p fault.Addends = (i : ℕ) × (i < sections_in file) × (wanted_in file (AddendsFor p.section) i ≡ true)
IsRelocationFault file p fault.RelocationsTwice =
    NoneBelow (wanted_in file (AddendsFor p.section)) (sections_in file) × AreTwo (wanted_in file (RelocationsFor p.section)) (sections_in file)
IsRelocationFault file p _ = ⊥

-- What a relocation refers to: its place, its slot, from the function's first, and its symbol. What the symbol is can be known already.
pub record IsReferred (file symbols strings : List ℕ) (p : Place) (r : Relocation) (known : Option Target) (o : Outside) : Type 0 where
  pub place : o.place ≡ p
  pub at : o.at ≡ r.offset
  pub slot : o.slot ≡ (r.offset - p.from) / 8
  pub meant : Option ℕ
  pub is_meant : IsDataOf file symbols (symbol_or_null symbols r.symbol) (addend_at (bytes_of file p.section) r.offset) meant
  pub target : o.target ≡ unwrap_or known (target_of file symbols (symbol_or_null symbols r.symbol) meant)
  pub name : o.name.bytes.now ≡ name_of file symbols strings (symbol_or_null symbols r.symbol) meant

-- what the first relocation refers to
pub record IsRelocated (file symbols strings : List ℕ) (p : Place) (o : Outside) : Type 0 where
  pub relocation : Relocation
  pub first : IsReachedFirst file p relocation
  pub is : IsReferred file symbols strings p relocation None o

-- the name of the symbol of a number, where there is one
abbrev pub name_found : List ℕ → List ℕ → Option ℕ → List ℕ
name_found symbols strings None = []
name_found symbols strings (Some k) = text_at strings (symbol_of symbols k).name name_limit

-- What the first call of a place refers to: its slot, and the first function that begins at that place.
pub record IsCalling (symbols strings : List ℕ) (sections : ℕ) (p : Place) (code : List ℕ) (o : Outside) : Type 0 where
  pub first : IsFirst (is_call code) (length code / 8) o.slot
  pub place : o.place ≡ p
  pub at : o.at ≡ p.from + 8 * o.slot
  pub target : o.target ≡ target.Function
  pub called : Option ℕ
  pub found : Finds (λ k. is_called sections p.section (called_at code p.from o.slot) (symbol_of symbols k)) (length symbols / 24) called
  pub name : o.name.bytes.now ≡ name_found symbols strings called
