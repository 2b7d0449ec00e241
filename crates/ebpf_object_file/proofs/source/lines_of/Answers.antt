use Rattle.std.proofs.Common.{◌≡◌, ◌<◌, ap, subst, sym, ◌∙◌, refl, inl, inr, ℕ}
use Rattle.ebpf_object_file.specs.declared.header.Header.{Header}
use Rattle.ebpf_object_file.specs.Source.{HasTables, section_name, has_whole_name}
use Rattle.ebpf_object_file.proofs.Objects.{names_inside}
use Rattle.ebpf_object_file.proofs.Tables.{name_is, whole_is, lines_found, lines_refused}
use Rattle.ebpf_object_file.proofs.source.lines_of.Goals.{After-is_named}
use Rattle.ebpf_object_file.proofs.source.lines_of.Goals as goal

pub find_section-requires-clause-names : goal.find_section-requires-clause-names
find_section-requires-clause-names c = names_inside c.args.file.now c.in-Ok.header c.in-Ok.ensures.found.0 c.in-Ok.ensures.found.1

pub find_section-requires-2-clause-names : goal.find_section-requires-2-clause-names
find_section-requires-2-clause-names c = names_inside c.args.file.now c.in-Ok.header c.in-Ok.ensures.found.0 c.in-Ok.ensures.found.1

pub bytes_of-names-requires-clause-index : goal.bytes_of-names-requires-clause-index
bytes_of-names-requires-clause-index c = names_inside c.args.file.now c.in-Ok.header c.in-Ok.ensures.found.0 c.in-Ok.ensures.found.1

pub returns-in-None-find_section-clause-found : goal.returns-in-None-find_section-clause-found
returns-in-None-find_section-clause-found c = inr (inl c.in-None-find_section.ensures)

-- the tables of lines are there
tables : (c : After-is_named) → HasTables c.args.file.now c.args.section c.in-Some.btf c.in-Some-find_section.ext
tables c = record {
  is_open = c.in-Ok.ensures.found.0;
  inside = subst (λ (n : ℕ). c.args.section < n) (ap (λ (h : Header). h.sections) c.in-Ok.ensures.found.1) c.if-section-header.false;
  btf_is = c.in-Some.ensures;
  ext_is = c.in-Some-find_section.ensures;
}

-- what was tested is whether the section's name is whole
whole : (c : After-is_named) → has_whole_name c.args.file.now c.args.section ≡ c.is_named.result
whole c =
    let test = whole_is c.args.file.now c.bytes_of-names.result.now c.text_at-name.result.now c.in-Ok.header c.section_of-at.result c.args.section
    c.in-Ok.ensures.found.1 c.bytes_of-names.ensures c.section_of-at.ensures c.text_at-name.ensures in
    sym test ∙ sym c.is_named.ensures

-- the text that was read is that name
named : (c : After-is_named) → c.text_at-name.result.now ≡ section_name c.args.file.now c.args.section
named c =
    name_is c.args.file.now c.bytes_of-names.result.now c.text_at-name.result.now c.in-Ok.header c.section_of-at.result c.args.section
    c.in-Ok.ensures.found.1 c.bytes_of-names.ensures c.section_of-at.ensures c.text_at-name.ensures

pub returns-then-not-is_named-clause-refused : goal.returns-then-not-is_named-clause-refused
returns-then-not-is_named-clause-refused c =
    let h = (goal.at.returns-then-not-is_named-clause-refused c).After-is_named in
    inr (inr (c.in-Some.btf, c.in-Some-find_section.ext, tables h, inl (refl, whole h ∙ c.if-not-is_named.true)))

pub returns-clause-found : goal.returns-clause-found
returns-clause-found c =
    let h = (goal.at.returns-clause-found c).After-is_named in
    lines_found c.args.file.now _ _ c.text_at-name.result.now c.args.section _ _ c.lines_in.result (tables h) (whole h ∙ c.if-not-is_named.false)
    c.bytes_of-btf.ensures c.bytes_of.ensures (named h) c.lines_in.ensures.found

pub returns-clause-refused : goal.returns-clause-refused
returns-clause-refused c =
    let h = (goal.at.returns-clause-refused c).After-is_named in
    lines_refused c.args.file.now _ _ c.text_at-name.result.now c.args.section _ _ c.lines_in.result (tables h) (whole h ∙ c.if-not-is_named.false)
    c.bytes_of-btf.ensures c.bytes_of.ensures (named h) c.lines_in.ensures.refused
