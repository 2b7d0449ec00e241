use Rattle.std.proofs.Common.{◌≡◌, ◌<◌, ℕ, ap, sym, ◌∙◌, arith, List}
use Rattle.ebpf_object_file.specs.declared.header.Header.{Header}
use Rattle.ebpf_object_file.specs.declared.section.Section.{Section}
use Rattle.ebpf_object_file.specs.Text.{is_named}
use Rattle.ebpf_object_file.specs.Field.{field}
use Rattle.ebpf_object_file.specs.Section.{sections_in, bytes_of, section_of}
use Rattle.ebpf_object_file.specs.Source.{named_section}
use Rattle.ebpf_object_file.proofs.Walks.{none_more}
use Rattle.ebpf_object_file.proofs.source.find_section.Goals as goal

-- the test as the code makes it is the defined one
named_is : (file name names : List ℕ) (h : Header) (s : Section) (i : ℕ) → names ≡ bytes_of file h.names → h.names ≡ field 2 file 62
    → s ≡ section_of file i → is_named names s.name name ≡ named_section file name i
named_is file name names h s i names_are h_is s_is =
    ap (λ (x : List ℕ). is_named x s.name name) (names_are ∙ ap (λ (k : ℕ). bytes_of file k) h_is)
    ∙ ap (λ (x : Section). is_named (bytes_of file (field 2 file 62)) x.name name) s_is

pub loop-index-preserved : goal.loop-index-preserved
loop-index-preserved c =
    let test = named_is c.args.file.now c.args.name.now c.bytes_of-names.result.now c.args.header c.section_of.result c.loop-index.index
    c.bytes_of-names.ensures (ap (λ (h : Header). h.names) c.requires.header) c.section_of.ensures in
    none_more (named_section c.args.file.now c.args.name.now) c.loop-index.index c.loop-index.invariant
    (sym test ∙ sym c.is_named.ensures ∙ c.if-is_named.false)

pub returns-then-is_named : goal.returns-then-is_named
returns-then-is_named c =
    let count : c.args.header.sections ≡ sections_in c.args.file.now = ap (λ (h : Header). h.sections) c.requires.header in
    let below : c.loop-index.index < c.args.header.sections = c.loop-index-test.true in
    let test = named_is c.args.file.now c.args.name.now c.bytes_of-names.result.now c.args.header c.section_of.result c.loop-index.index
    c.bytes_of-names.ensures (ap (λ (h : Header). h.names) c.requires.header) c.section_of.ensures in
    record { inside = omega (arith, count, below); here = sym test ∙ sym c.is_named.ensures ∙ c.if-is_named.true; before = c.loop-index.invariant }

pub returns : goal.returns
returns c =
    let count : c.args.header.sections ≡ sections_in c.args.file.now = ap (λ (h : Header). h.sections) c.requires.header in
    let e : sections_in c.args.file.now ≡ c.loop-index.index = omega (arith, count) in
    rw e c.loop-index.invariant
