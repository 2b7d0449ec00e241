-- The lines of a section: from the file to the part of .BTF.ext that is of it.
use Rattle.std.specs.Prelude.{ℕ, Bool, true, false, ◌≡◌, ◌≤◌, ◌<◌, ◌⊎◌, List, [], ◌∷◌, length, drop}
use Rattle.ebpf_object_file.specs.declared.lines.Lines.{Lines}
use Rattle.ebpf_object_file.specs.declared.fault.FileFault.{FileFault}
use Rattle.ebpf_object_file.specs.declared.fault.FileFault.TheVariants as fault
use Rattle.ebpf_object_file.specs.First.{IsFirst, NoneBelow}
use Rattle.ebpf_object_file.specs.Field.{field}
use Rattle.ebpf_object_file.specs.Section.{section_of, sections_in, bytes_of}
use Rattle.ebpf_object_file.specs.File.{IsOpen, IsOpenFault, name_limit}
use Rattle.ebpf_object_file.specs.Lines.{has_table, table_of, PartValue, IsPartNamed, HasNoPart, IsBroken}
use Rattle.ebpf_object_file.specs.Text.{is_named, text_at}

-- the section of a number has the name
abbrev pub named_section : List ℕ → List ℕ → ℕ → Bool
named_section file name i = is_named (bytes_of file (field 2 file 62)) (section_of file i).name name

-- ".BTF" and ".BTF.ext"
abbrev pub btf_name : List ℕ
btf_name = 46 ∷ 66 ∷ 84 ∷ 70 ∷ []

abbrev pub ext_name : List ℕ
ext_name = 46 ∷ 66 ∷ 84 ∷ 70 ∷ 46 ∷ 101 ∷ 120 ∷ 116 ∷ []

-- what .BTF and .BTF.ext say of the section of a name: the strings, the bytes of its lines, and how many bytes a line has
pub record AreLines (btf ext name strings records : List ℕ) (size : ℕ) : Type 0 where
  pub strings_there : has_table btf ≡ true
  pub strings_are : strings ≡ table_of btf
  pub lines_there : has_table ext ≡ true
  pub room : 4 ≤ length (table_of ext)
  pub size_is : size ≡ field 4 (table_of ext) 0
  pub wide : 16 ≤ size
  pub part : PartValue
  pub first : IsPartNamed size strings name (drop 4 (table_of ext)) part
  pub records_are : records ≡ part.records

-- a table has parts, and none is of that section
abbrev pub HasNoneNamed : List ℕ → List ℕ → List ℕ → Type 0
HasNoneNamed btf table name = (4 ≤ length table) × (16 ≤ field 4 table 0) × HasNoPart (field 4 table 0) (table_of btf) name (drop 4 table)

-- they say nothing of it: there are no lines at all, or none of that section
abbrev pub HasNoLines : List ℕ → List ℕ → List ℕ → Type 0
HasNoLines btf ext name = (has_table btf ≡ true) × (has_table ext ≡ true) × ((table_of ext ≡ []) ⊎ HasNoneNamed btf (table_of ext) name)

-- a table isn't empty, and has no size of records, or one below 16, or bytes that are no part
abbrev pub IsTableBroken : List ℕ → List ℕ → List ℕ → Type 0
IsTableBroken btf table name =
    ((0 < length table) × (length table < 4))
    ⊎ ((4 ≤ length table) × (field 4 table 0 < 16))
    ⊎ ((4 ≤ length table) × (16 ≤ field 4 table 0) × IsBroken (field 4 table 0) (table_of btf) name (drop 4 table))

-- why they can't be read
abbrev pub IsLinesFault : List ℕ → List ℕ → List ℕ → FileFault → Type 0
IsLinesFault btf ext name fault.BadStrings = has_table btf ≡ false
IsLinesFault btf ext name fault.BadLines =
    (has_table btf ≡ true) × ((has_table ext ≡ false) ⊎ (has_table ext ≡ true) × IsTableBroken btf (table_of ext) name)
IsLinesFault btf ext name _ = ⊥

-- the first sections of those names, in a file that has a section of the number
pub record HasTables (file : List ℕ) (section btf ext : ℕ) : Type 0 where
  pub is_open : IsOpen file
  pub inside : section < sections_in file
  pub btf_is : IsFirst (named_section file btf_name) (sections_in file) btf
  pub ext_is : IsFirst (named_section file ext_name) (sections_in file) ext

-- the file has no section of one of the names, as without -g
abbrev pub HasNoTables : List ℕ → Type 0
HasNoTables file =
    NoneBelow (named_section file btf_name) (sections_in file) ⊎ NoneBelow (named_section file ext_name) (sections_in file)

-- the name of the section of a number, cut after 255 bytes
abbrev pub section_name : List ℕ → ℕ → List ℕ
section_name file i = text_at (bytes_of file (field 2 file 62)) (section_of file i).name name_limit

-- that is all of its name
abbrev pub has_whole_name : List ℕ → ℕ → Bool
has_whole_name file i = named_section file (section_name file i) i

-- What the file says of the lines of the section of a number.
pub record AreLinesOf (file : List ℕ) (section : ℕ) (l : Lines) : Type 0 where
  pub btf : ℕ
  pub ext : ℕ
  pub tables : HasTables file section btf ext
  pub whole : has_whole_name file section ≡ true
  pub lines : AreLines (bytes_of file btf) (bytes_of file ext) (section_name file section) l.strings.now l.records.now l.size

-- it says nothing of them
abbrev pub HasNoLinesOf : List ℕ → ℕ → Type 0
HasNoLinesOf file section =
    NoneBelow (named_section file btf_name) (sections_in file)
    ⊎ NoneBelow (named_section file ext_name) (sections_in file)
    ⊎ ((btf ext : ℕ) × HasTables file section btf ext × (has_whole_name file section ≡ true)
    × HasNoLines (bytes_of file btf) (bytes_of file ext) (section_name file section))

-- why what it says can't be read
abbrev pub IsLinesOfFault : List ℕ → ℕ → FileFault → Type 0
IsLinesOfFault file section e =
    IsOpenFault file e
    ⊎ ((e ≡ fault.NoSection) × IsOpen file × (sections_in file ≤ section))
    ⊎ ((btf ext : ℕ) × HasTables file section btf ext × ((e ≡ fault.LongSectionName) × (has_whole_name file section ≡ false)
    ⊎ (has_whole_name file section ≡ true) × IsLinesFault (bytes_of file btf) (bytes_of file ext) (section_name file section) e))
