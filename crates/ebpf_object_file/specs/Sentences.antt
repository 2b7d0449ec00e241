-- Why a file has no program of the name that was asked for, in a sentence.
use Rattle.std.specs.Prelude.{ℕ, zero, suc, ◌++◌, ◌/◌, List, [], ◌∷◌, length, map, codes, decimal, cond, if◌then◌else◌, nat_lt, ◌==◌, ◌+◌}
use Rattle.std.specs.Char.{is_ascii_graphic}
use Rattle.ebpf_object_file.specs.declared.functions.Functions.{Functions}
use Rattle.ebpf_object_file.specs.declared.fault.FileFault.{FileFault}
use Rattle.ebpf_object_file.specs.declared.fault.FileFault.TheVariants as fault
use Rattle.ebpf_object_file.specs.declared.object_fault.ObjectFault.{ObjectFault}
use Rattle.ebpf_object_file.specs.declared.object_fault.ObjectFault.TheVariants as object
use Rattle.ebpf_object_file.specs.declared.outside.Outside.{Outside}
use Rattle.ebpf_object_file.specs.declared.outside.Target.{Target}
use Rattle.ebpf_object_file.specs.declared.outside.Target.TheVariants as target
use Rattle.ebpf_object_file.specs.File.{name_limit}
use Rattle.ebpf_object_file.specs.Symbol.{symbol_of, is_function}
use Rattle.ebpf_object_file.specs.Text.{text_at}

-- what is wrong with the file
abbrev pub file_sentence : FileFault → List ℕ
file_sentence fault.NoHeader = codes "the file has fewer than the 64 bytes of an ELF header"
file_sentence fault.NotElf = codes "the file is not an ELF file"
file_sentence fault.NotLittle64 = codes "the file is not a 64-bit little-endian ELF file: compile with -target bpfel"
file_sentence fault.NotRelocatable = codes "the file is not relocatable: compile with -c"
file_sentence fault.NotBpf = codes "the file is for a machine other than eBPF: compile with -target bpfel"
file_sentence fault.HeaderSize = codes "the file's section headers do not have 64 bytes each"
file_sentence fault.SectionsOutside = codes "the section headers reach beyond the end of the file"
file_sentence fault.NoNames = codes "the section of section names is not in the file"
file_sentence fault.ContentsOutside = codes "a section reaches beyond the end of the file"
file_sentence fault.NoSymbols = codes "the file has no symbol table"
file_sentence fault.SymbolsTwice = codes "the file has more than one symbol table"
file_sentence fault.NoStrings = codes "the section of symbol names is not in the file"
file_sentence fault.LongName = codes "the function's name has more than 255 bytes"
file_sentence fault.NoFunctions = codes "the file has no function"
file_sentence fault.NotCode = codes "the function's bytes are not whole slots of its section"
file_sentence fault.Addends = codes "the relocations of the function's section have addends"
file_sentence fault.RelocationsTwice = codes "the function's section has more than one section of relocations"
file_sentence fault.SlotTwice = codes "two relocations are for one slot"
file_sentence fault.NoSection = codes "the file has no section of that number"
file_sentence fault.LongSectionName = codes "the name of the function's section has no end, or more than 255 bytes"
file_sentence fault.BadStrings = codes "the strings of .BTF cannot be read"
file_sentence fault.BadLines = codes "the lines of .BTF.ext cannot be read"

-- a byte of a name, and `?` for one that is no visible character
abbrev pub shown_byte : ℕ → ℕ
shown_byte byte = cond (is_ascii_graphic byte) byte 63

abbrev pub shown_name : List ℕ → List ℕ
shown_name [] = codes "(no name)"
shown_name (byte ∷ bytes) = map shown_byte (byte ∷ bytes)

-- ---- the names of functions: the first sixteen with commas between them, and `..` for more

-- a function's name after those of this many others
abbrev pub name_after : ℕ → List ℕ → List ℕ
name_after count name =
    if count == 0 then shown_name name
    else if nat_lt count 16 then codes ", " ++ shown_name name
    else if count == 16 then codes ", .." else []

-- how many of the first n symbols are functions
unfoldable pub functions_below : (sections : ℕ) (symbols : List ℕ) → ℕ → ℕ
functions_below sections symbols zero = 0
functions_below sections symbols (suc n) = functions_below sections symbols n + cond (is_function sections (symbol_of symbols n)) 1 0

-- what is written of the first n symbols
unfoldable pub names_below : (sections : ℕ) (symbols strings : List ℕ) → ℕ → List ℕ
names_below sections symbols strings zero = []
names_below sections symbols strings (suc n) = names_below sections symbols strings n
    ++ cond (is_function sections (symbol_of symbols n)) (name_after (functions_below sections symbols n) (text_at strings (symbol_of symbols n).name name_limit)) []

abbrev pub names_of : Functions → List ℕ
names_of f = let n = length f.symbols.now / 24 in
    if functions_below f.header.sections f.symbols.now n == 0 then codes "none" else names_below f.header.sections f.symbols.now f.strings.now n

-- ---- what another part of the file is, and what mends it

abbrev pub verb : Target → List ℕ
verb target.Function = codes "calls"
verb _ = codes "uses"

abbrev pub mending : Target → List ℕ
mending target.Map = codes "a map: pass what it has in the context, or keep an object on a shelf"
mending target.Function = codes "a function of the file: make it static inline, and compile with -O2"
mending target.Variable = codes "a variable outside the function: pass it in the context; if it is constant, declare it const and leave volatile out"
mending target.StringLiteral = codes "a string: compare byte by byte, as starts_with of ebpf_program.h does"
mending target.Scalar = codes "a constant of the size of a number: make it a macro or an enum, or pack a table of that size into a number"
mending target.Table = codes "a table outside the function: pass it in the context, or pack it into a number"
mending target.Addresses = codes "a table of addresses: keep numbers in it, such as offsets, or use a switch"
mending target.Unplaced = codes "whose place in the file is not certain: make the table static, or compile with -fdata-sections"
mending target.Unloaded = codes "which is not read-only data that can be loaded: pass it in the context"
mending target.External = codes "which is not in the file: define it as static inline, and compile with -O2"

-- the slot, the symbol, and what mends it
abbrev pub outside_sentence : Outside → List ℕ
outside_sentence o = codes "slot " ++ (decimal o.slot ++ (codes " " ++ (verb o.target ++ (codes " " ++ (shown_name o.name.bytes.now ++ (codes ", " ++ mending o.target))))))

abbrev pub object_sentence : ObjectFault → List ℕ
object_sentence (object.File e) = file_sentence e
object_sentence (object.NoFunction f) = codes "the file has no function of that name; it has " ++ names_of f
object_sentence (object.SeveralFunctions f) = codes "the file has more than one function: name one of " ++ names_of f
object_sentence (object.Outside o) = outside_sentence o

abbrev pub object_code : ObjectFault → List ℕ
object_code (object.File e) = codes "O1"
object_code (object.NoFunction f) = codes "O2"
object_code (object.SeveralFunctions f) = codes "O3"
object_code (object.Outside o) = codes "O4"
