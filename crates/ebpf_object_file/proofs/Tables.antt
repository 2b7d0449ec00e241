-- The lines of a section, in the words of the file.
use Rattle.std.proofs.Common.{◌≡◌, ℕ, true, List, length, drop, Result, Option, Some, None, ap, subst, ◌∙◌, inl, inr, ◌≤◌, ◌<◌, sym}
use Rattle.std.specs.Prelude.{IfOk, IfErr, MatchOption}
use Rattle.std.proofs.lemmas.Result.{IfOk-weaker}
use Rattle.ebpf_object_file.specs.declared.header.Header.{Header}
use Rattle.ebpf_object_file.specs.declared.section.Section.{Section}
use Rattle.ebpf_object_file.specs.declared.lines.Lines.{Lines}
use Rattle.ebpf_object_file.specs.declared.fault.FileFault.{FileFault}
use Rattle.ebpf_object_file.specs.declared.fault.FileFault.TheVariants.{BadLines}
use Rattle.ebpf_object_file.specs.Field.{field}
use Rattle.ebpf_object_file.specs.Header.{header_of}
use Rattle.ebpf_object_file.specs.Section.{section_of, bytes_of}
use Rattle.ebpf_object_file.specs.File.{name_limit}
use Rattle.ebpf_object_file.specs.Text.{is_named, text_at}
use Rattle.ebpf_object_file.specs.Lines.{has_table, table_of, PartValue, IsPartNamed, HasNoPart, IsBroken}
use Rattle.ebpf_object_file.specs.Source.{AreLines, HasNoLines, IsLinesFault, HasTables, AreLinesOf, HasNoLinesOf, IsLinesOfFault, section_name}
use Rattle.ebpf_object_file.specs.Source.{has_whole_name, named_section}
use Rattle.ebpf_object_file.proofs.Chosen.{err_more}

-- the section's name as the code reads it
pub name_is : (file names name : List ℕ) (h : Header) (s : Section) (i : ℕ) → h ≡ header_of file → names ≡ bytes_of file h.names → s ≡ section_of file i
    → name ≡ text_at names s.name name_limit → name ≡ section_name file i
name_is file names name h s i header names_are same is =
    is ∙ ap (λ (x : List ℕ). text_at x s.name name_limit) (names_are ∙ ap (λ (x : Header). bytes_of file x.names) header)
    ∙ ap (λ (x : Section). text_at (bytes_of file (header_of file).names) x.name name_limit) same

pub whole_is : (file names name : List ℕ) (h : Header) (s : Section) (i : ℕ) → h ≡ header_of file → names ≡ bytes_of file h.names → s ≡ section_of file i
    → name ≡ text_at names s.name name_limit → is_named names s.name name ≡ has_whole_name file i
whole_is file names name h s i header names_are same is =
    ap (λ (x : List ℕ). is_named x s.name name) (names_are ∙ ap (λ (x : Header). bytes_of file x.names) header)
    ∙ ap (λ (x : Section). is_named (bytes_of file (header_of file).names) x.name name) same
    ∙ ap (λ (x : List ℕ). named_section file x i) (name_is file names name h s i header names_are same is)

subst_three : (P : List ℕ → List ℕ → List ℕ → Type 0) (a b c x y z : List ℕ) → a ≡ x → b ≡ y → c ≡ z → P a b c → P x y z
subst_three P a b c x y z e f g p =
    subst (λ (t : List ℕ). P x y t) g (subst (λ (t : List ℕ). P x t c) f (subst (λ (t : List ℕ). P t b c) e p))

lines_more : (file b x name : List ℕ) (section btf ext : ℕ) (o : Option Lines) → HasTables file section btf ext → has_whole_name file section ≡ true
    → b ≡ bytes_of file btf → x ≡ bytes_of file ext → name ≡ section_name file section
    → MatchOption o (HasNoLines b x name) (λ l. AreLines b x name l.strings.now l.records.now l.size)
    → MatchOption o (HasNoLinesOf file section) (λ l. AreLinesOf file section l)
lines_more file b x name section btf ext None tables whole e f g h = inr (inr (btf, ext, tables, whole, subst_three HasNoLines _ _ _ _ _ _ e f g h))
lines_more file b x name section btf ext (Some l) tables whole e f g h = record {
  btf = btf;
  ext = ext;
  tables = tables;
  whole = whole;
  lines = subst_three (λ p q r. AreLines p q r l.strings.now l.records.now l.size) _ _ _ _ _ _ e f g h;
}

pub lines_found : (file b x name : List ℕ) (section btf ext : ℕ) (r : Result (Option Lines) FileFault)
    → HasTables file section btf ext → has_whole_name file section ≡ true
    → b ≡ bytes_of file btf → x ≡ bytes_of file ext → name ≡ section_name file section
    → IfOk r (λ o. MatchOption o (HasNoLines b x name) (λ l. AreLines b x name l.strings.now l.records.now l.size))
    → IfOk r (λ o. MatchOption o (HasNoLinesOf file section) (λ l. AreLinesOf file section l))
lines_found file b x name section btf ext r tables whole e f g h =
    IfOk-weaker r (λ o. MatchOption o (HasNoLines b x name) (λ l. AreLines b x name l.strings.now l.records.now l.size))
    (λ o. MatchOption o (HasNoLinesOf file section) (λ l. AreLinesOf file section l)) (λ o p. lines_more file b x name section btf ext o tables whole e f g p) h

pub lines_refused : (file b x name : List ℕ) (section btf ext : ℕ) (r : Result (Option Lines) FileFault)
    → HasTables file section btf ext → has_whole_name file section ≡ true
    → b ≡ bytes_of file btf → x ≡ bytes_of file ext → name ≡ section_name file section
    → IfErr r (λ e. IsLinesFault b x name e) → IfErr r (λ e. IsLinesOfFault file section e)
lines_refused file b x name section btf ext r tables whole e f g h =
    err_more r (λ y. IsLinesFault b x name y) (λ y. IsLinesOfFault file section y)
    (λ y p. inr (inr (btf, ext, tables, inr (whole, subst_three (λ s t u. IsLinesFault s t u y) _ _ _ _ _ _ e f g p)))) h

-- the two tables as the code reads them, with the size of a record and what is after it
pub record AreRead (btf ext strings table rest : List ℕ) (size : ℕ) : Type 0 where
  pub strings_are : (has_table btf ≡ true) × (strings ≡ table_of btf)
  pub table_is : (has_table ext ≡ true) × (table ≡ table_of ext)
  pub room : 4 ≤ length table
  pub size_is : size ≡ field 4 table 0
  pub wide : 16 ≤ size
  pub rest_is : rest ≡ drop 4 table

-- what holds of them holds of the tables
of_tables : (P : ℕ → List ℕ → List ℕ → Type 0) (btf ext strings table rest : List ℕ) (size : ℕ) → AreRead btf ext strings table rest size
    → P size strings rest → P (field 4 (table_of ext) 0) (table_of btf) (drop 4 (table_of ext))
of_tables P btf ext strings table rest size r p =
    let size_is : size ≡ field 4 (table_of ext) 0 = r.size_is ∙ ap (λ (x : List ℕ). field 4 x 0) r.table_is.1 in
    let rest_is : rest ≡ drop 4 (table_of ext) = r.rest_is ∙ ap (λ (x : List ℕ). drop 4 x) r.table_is.1 in
    subst (λ (n : ℕ). P n (table_of btf) (drop 4 (table_of ext))) size_is
    (subst (λ (x : List ℕ). P size x (drop 4 (table_of ext))) r.strings_are.1 (subst (λ (x : List ℕ). P size strings x) rest_is p))

room_of : (btf ext strings table rest : List ℕ) (size : ℕ) → AreRead btf ext strings table rest size → 4 ≤ length (table_of ext)
room_of btf ext strings table rest size r = subst (λ (x : List ℕ). 4 ≤ length x) r.table_is.1 r.room

wide_of : (btf ext strings table rest : List ℕ) (size : ℕ) → AreRead btf ext strings table rest size → 16 ≤ field 4 (table_of ext) 0
wide_of btf ext strings table rest size r = subst (λ (n : ℕ). 16 ≤ n) (r.size_is ∙ ap (λ (x : List ℕ). field 4 x 0) r.table_is.1) r.wide

pub has_no_lines : (btf ext name strings table rest : List ℕ) (size : ℕ) → AreRead btf ext strings table rest size
    → HasNoPart size strings name rest → HasNoLines btf ext name
has_no_lines btf ext name strings table rest size r none = (
  r.strings_are.0,
  r.table_is.0,
  inr (
    room_of btf ext strings table rest size r,
    wide_of btf ext strings table rest size r,
    of_tables (λ n x y. HasNoPart n x name y) btf ext strings table rest size r none,
  ),
)

pub lines_broken : (btf ext name strings table rest : List ℕ) (size : ℕ) (e : FileFault) → AreRead btf ext strings table rest size
    → (e ≡ BadLines) × IsBroken size strings name rest → IsLinesFault btf ext name e
lines_broken btf ext name strings table rest size e r h =
    subst (λ (x : FileFault). IsLinesFault btf ext name x) (sym h.0) (
      r.strings_are.0,
      inr (
        r.table_is.0,
        inr (inr (
          room_of btf ext strings table rest size r,
          wide_of btf ext strings table rest size r,
          of_tables (λ n x y. IsBroken n x name y) btf ext strings table rest size r h.1,
        )),
      ),
    )

pub lines_too_narrow : (btf ext name table : List ℕ) (size : ℕ) → has_table btf ≡ true → (has_table ext ≡ true) × (table ≡ table_of ext) → 4 ≤ length table
    → size ≡ field 4 table 0 → size < 16 → IsLinesFault btf ext name BadLines
lines_too_narrow btf ext name table size b t room same narrow = (
  b,
  inr (
    t.0,
    inr (inl (
      subst (λ (x : List ℕ). 4 ≤ length x) t.1 room,
      subst (λ (n : ℕ). n < 16) (same ∙ ap (λ (x : List ℕ). field 4 x 0) t.1) narrow,
    )),
  ),
)

pub are_lines : (btf ext name strings table rest records : List ℕ) (size : ℕ) (p : PartValue) → AreRead btf ext strings table rest size
    → IsPartNamed size strings name rest p → records ≡ p.records → AreLines btf ext name strings records size
are_lines btf ext name strings table rest records size p r first records_are = record {
  strings_there = r.strings_are.0;
  strings_are = r.strings_are.1;
  lines_there = r.table_is.0;
  room = room_of btf ext strings table rest size r;
  size_is = r.size_is ∙ ap (λ (x : List ℕ). field 4 x 0) r.table_is.1;
  wide = r.wide;
  part = p;
  first = subst (λ (x : List ℕ). IsPartNamed size strings name x p) (r.rest_is ∙ ap (λ (x : List ℕ). drop 4 x) r.table_is.1) first;
  records_are = records_are;
}
