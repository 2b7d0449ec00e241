use Rattle.std.proofs.Common.{◌≡◌, ◌≤◌, ◌<◌, ap}
use Rattle.ebpf_object_file.specs.declared.header.Header.{Header}
use Rattle.ebpf_object_file.specs.declared.section.Section.{Section}
use Rattle.ebpf_object_file.specs.Section.{section_of, sections_in}
use Rattle.ebpf_object_file.proofs.functions.symbol_table.Goals as goal

pub returns-in-NoSuch-clause-refused : goal.returns-in-NoSuch-clause-refused
returns-in-NoSuch-clause-refused c = (c.requires.file, c.in-NoSuch.ensures)

pub returns-in-Several-clause-refused : goal.returns-in-Several-clause-refused
returns-in-Several-clause-refused c = (c.requires.file, c.in-Several.ensures)

pub returns-then-section_of-header-clause-refused : goal.returns-then-section_of-header-clause-refused
returns-then-section_of-header-clause-refused c =
    let count : c.args.header.sections ≡ sections_in c.args.file.now = ap (λ (h : Header). h.sections) c.requires.header in
    let link : c.section_of.result.link ≡ (section_of c.args.file.now c.in-One.table).link = ap (λ (s : Section). s.link) c.section_of.ensures in
    let above : c.args.header.sections ≤ c.section_of.result.link = c.if-section_of-header.true in
    (c.requires.file, c.in-One.table, c.in-One.ensures, rw (← count, ← link) above)

pub returns-clause-found : goal.returns-clause-found
returns-clause-found c =
    let count : c.args.header.sections ≡ sections_in c.args.file.now = ap (λ (h : Header). h.sections) c.requires.header in
    let link : c.section_of.result.link ≡ (section_of c.args.file.now c.in-One.table).link = ap (λ (s : Section). s.link) c.section_of.ensures in
    let below : c.section_of.result.link < c.args.header.sections = c.if-section_of-header.false in
    record { file_is = c.requires.file; only = c.in-One.ensures; strings = rw (← count, ← link) below }
