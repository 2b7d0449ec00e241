use Rattle.std.proofs.Common.{◌≡◌, ◌<◌, ◌≤◌, ◌+◌, ℕ, Bool, false, Vec, Global, List, length, slice_index_or, ap, sym, subst, ◌∙◌, inl, inr, arith}
use Rattle.std.proofs.lemmas.List.{length-replicate}
use Rattle.ebpf_object_file.specs.declared.header.Header.{Header}
use Rattle.ebpf_object_file.specs.Section.{sections_in}
use Rattle.ebpf_object_file.specs.Reading.{AreMarkedBelow}
use Rattle.ebpf_object_file.proofs.Marked.{none_marked, same_marked, one_marked}
use Rattle.ebpf_object_file.proofs.Fresh.{same_at}
use Rattle.ebpf_object_file.proofs.marks.relocated_sections.Goals.{then-has_entries+then-section-header, else-has_entries, else-has_entries-via-then-has_entries+else-section-header, else-has_entries-via-else-has_entries}
use Rattle.ebpf_object_file.proofs.marks.relocated_sections.Goals as goal

pub loop-index-init : goal.loop-index-init
loop-index-init c =
    let fresh = c.in_ok-marks.ensures.items_if_clones_equal (λ y e. e) in
    none_marked c.args.file.now c.in_ok-marks.marks.items
    (ap length fresh ∙ length-replicate {A = Bool} c.args.header.sections false ∙ ap (λ (h : Header). h.sections) c.requires.header)
    (λ i. ap (λ (marks : List Bool). slice_index_or marks i false) fresh ∙ same_at {A = Bool} c.args.header.sections i false)

pub loop-index-preserved : goal.loop-index-preserved
loop-index-preserved c =
    let file = c.args.file.now in
    let n = c.loop-index.index in
    let s = c.section_of-section.result in
    let marks = c.loop-index.marks.items in
    let count : c.args.header.sections ≡ sections_in file = ap (λ (h : Header). h.sections) c.requires.header in
    elim c.if-has_entries.branch [
      | then-has_entries+then-section-header w ↦
          subst (λ (m : Vec Bool Global). AreMarkedBelow file (n + 1) m.items) (sym w.marks-is)
          (one_marked file n s marks c.section_of-section.ensures (sym c.has_entries.ensures ∙ w.if-has_entries.true)
          (subst (λ (x : ℕ). s.info < x) count w.if-section-header.true) c.loop-index.invariant)
      | else-has_entries w ↦
          subst (λ (m : Vec Bool Global). AreMarkedBelow file (n + 1) m.items) (sym w.marks-is)
          (same_marked file n s marks c.section_of-section.ensures (elim w.else-has_entries.branch [
            | else-has_entries-via-then-has_entries+else-section-header w' ↦ inr (subst (λ (x : ℕ). x ≤ s.info) count w'.if-section-header.false)
            | else-has_entries-via-else-has_entries w' ↦ inl (sym c.has_entries.ensures ∙ w'.if-has_entries.false)
          ]) c.loop-index.invariant)
    ]

pub returns : goal.returns
returns c =
    let file = c.args.file.now in
    let count : c.args.header.sections ≡ sections_in file = ap (λ (h : Header). h.sections) c.requires.header in
    let all : c.loop-index.index ≡ sections_in file = omega (arith, count, c.loop-index-test.false, c.loop-index.auto.index-end) in
    subst (λ (n : ℕ). AreMarkedBelow file n c.loop-index.marks.items) all c.loop-index.invariant
