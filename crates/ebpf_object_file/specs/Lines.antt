-- The lines of C that .BTF and .BTF.ext have (the kernel's documentation of BTF, "BTF Type and String Encoding" and ".BTF.ext section").
use Rattle.std.specs.Prelude.{ℕ, Bool, true, false, ⊤, ◌≡◌, ◌≢◌, ◌≤◌, ◌<◌, Option, Some, None, ◌+◌, ◌*◌, ◌/◌, ◌%◌, List, [], ◌∷◌, length, take}
use Rattle.std.specs.Prelude.{drop, slice_index, ◌&&◌, ◌==◌, ◌||◌, nat_le, nat_lt, cond, ◌-◌}
use Rattle.std.specs.List.{prefix_len}
use Rattle.ebpf_object_file.specs.declared.lines.Part.{Part}
use Rattle.ebpf_object_file.specs.declared.lines.Line.{Line}
use Rattle.ebpf_object_file.specs.Field.{field}
use Rattle.ebpf_object_file.specs.Text.{is_named}

-- what .BTF and .BTF.ext begin with: the magic number, version 1, and a header of 24 bytes at least
abbrev pub is_headed : List ℕ → Bool
is_headed bytes = nat_le 24 (length bytes) && field 2 bytes 0 == 60319 && slice_index bytes 2 == 1 && nat_le 24 (field 4 bytes 4)

-- Of .BTF the strings, str_off and str_len, and of .BTF.ext the table of lines, line_info_off and line_info_len: both at 16 and 20,
-- and from the header's end on.
abbrev pub table_at : List ℕ → ℕ
table_at bytes = field 4 bytes 4 + field 4 bytes 16

abbrev pub table_of : List ℕ → List ℕ
table_of bytes = take (field 4 bytes 20) (drop (table_at bytes) bytes)

abbrev pub has_table : List ℕ → Bool
has_table bytes = is_headed bytes && nat_le (table_at bytes + field 4 bytes 20) (length bytes)

-- a section's part of the table: where its name begins in the strings, and the bytes of its records
pub record PartValue : Type 0 where
  pub name : ℕ
  pub records : List ℕ

-- the same, wherever its bytes are in memory
abbrev pub viewed : Part → PartValue
viewed p = record { name = p.name; records = p.records.now }

-- how many bytes the first part takes, where a record has `size` of them
abbrev pub part_size : ℕ → List ℕ → ℕ
part_size size bytes = 8 + size * field 4 bytes 4

abbrev pub is_part : ℕ → List ℕ → Bool
is_part size bytes = nat_le 8 (length bytes) && nat_le (part_size size bytes) (length bytes)

abbrev pub part_of : ℕ → List ℕ → PartValue
part_of size bytes = record { name = field 4 bytes 0; records = take (size * field 4 bytes 4) (drop 8 bytes) }

-- after these parts, one after another, this is the rest
abbrev pub Follows : ℕ → List ℕ → List PartValue → List ℕ → Type 0
Follows size bytes [] rest = rest ≡ bytes
Follows size bytes (p ∷ ps) rest = (is_part size bytes ≡ true) × (p ≡ part_of size bytes) × Follows size (drop (part_size size bytes) bytes) ps rest

-- none of the parts is of the section of that name
abbrev pub NoneNamed : List ℕ → List ℕ → List PartValue → Type 0
NoneNamed strings name [] = ⊤
NoneNamed strings name (p ∷ ps) = (is_named strings p.name name ≡ false) × NoneNamed strings name ps

-- the first part of a section's name, after parts of others
abbrev pub IsPartNamed : ℕ → List ℕ → List ℕ → List ℕ → PartValue → Type 0
IsPartNamed size strings name bytes p = (ps : List PartValue) × (rest : List ℕ) × Follows size bytes ps rest × NoneNamed strings name ps
    × (is_part size rest ≡ true) × (p ≡ part_of size rest) × (is_named strings p.name name ≡ true)

-- there is none: the bytes are parts of others
abbrev pub HasNoPart : ℕ → List ℕ → List ℕ → List ℕ → Type 0
HasNoPart size strings name bytes = (ps : List PartValue) × Follows size bytes ps [] × NoneNamed strings name ps

-- after some parts, none of that name, come bytes that are no part
abbrev pub IsBroken : ℕ → List ℕ → List ℕ → List ℕ → Type 0
IsBroken size strings name bytes = (ps : List PartValue) × (rest : List ℕ) × Follows size bytes ps rest × NoneNamed strings name ps
    × (rest ≢ []) × (is_part size rest ≡ false)

-- the line of a number; the line is above the ten bits of the column
abbrev pub line_of : ℕ → List ℕ → ℕ → Line
line_of size records k = record {
  offset = field 4 records (size * k);
  file = field 4 records (size * k + 4);
  text = field 4 records (size * k + 8);
  line = field 4 records (size * k + 12) / 1024;
  column = field 4 records (size * k + 12) % 1024;
}

-- the line begins from one byte on, and not after another
abbrev pub is_between : ℕ → ℕ → Line → Bool
is_between from at l = nat_le from l.offset && nat_le l.offset at

-- Of the first n lines that pass a test, the one that begins latest, and of several of those the last.
pub record IsLatest (test : Line → Bool) (size : ℕ) (records : List ℕ) (n : ℕ) (l : Line) : Type 0 where
  pub number : ℕ
  pub inside : number < n
  pub is : l ≡ line_of size records number
  pub here : test l ≡ true
  pub last : (k : ℕ) → k < n → test (line_of size records k) ≡ true → (line_of size records k).offset ≤ l.offset
  pub after : (k : ℕ) → k < n → number < k → test (line_of size records k) ≡ true → (line_of size records k).offset < l.offset

-- that line, or none passes
abbrev pub Latest : (Line → Bool) → ℕ → List ℕ → ℕ → Option Line → Type 0
Latest test size records n None = (k : ℕ) → k < n → test (line_of size records k) ≡ false
Latest test size records n (Some l) = IsLatest test size records n l

-- The line that holds at a byte of a function that begins at another, or none does: the latest that begins between the two. Lines
-- of a function before it don't count.
abbrev pub Holds : ℕ → List ℕ → ℕ → ℕ → ℕ → Option Line → Type 0
Holds size records from at n best = Latest (is_between from at) size records n best

-- the line that begins later, or the other where both begin at the same byte
abbrev pub later : Option Line → Line → Line
later None l = l
later (Some found) l = cond (nat_lt l.offset found.offset) found l

-- The slot of a function at which a line begins to hold, where the function begins at a byte: the first that isn't before the line's own.
abbrev pub is_at : ℕ → ℕ → Line → Bool
is_at from slot l = nat_le from l.offset && (l.offset - from + 7) / 8 == slot

-- the most bytes that are shown of a file's name and of a line's text
abbrev pub file_limit : ℕ
file_limit = 4096

abbrev pub text_limit : ℕ
text_limit = 255

-- a tab or a blank
abbrev pub is_blank : ℕ → Bool
is_blank byte = byte == 9 || byte == 32

-- a text without the tabs and blanks that it begins with
abbrev pub trimmed : List ℕ → List ℕ
trimmed text = drop (prefix_len is_blank text) text
