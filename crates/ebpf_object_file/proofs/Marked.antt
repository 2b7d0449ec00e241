-- The sections that are marked after one more section header.
use Rattle.std.proofs.Common.{◌≡◌, ◌<◌, ◌≤◌, ◌+◌, ◌⊎◌, ℕ, Bool, true, false, List, length, slice_index_or, slice_set, sym, ap, subst, ◌∙◌, arith, inl, inr}
use Rattle.std.proofs.lemmas.Bool.{and_from}
use Rattle.std.proofs.lemmas.Bool.Decides.{eqb_tells}
use Rattle.std.proofs.lemmas.List.{length-set, get_or-set_same, get_or-set_other}
use Rattle.ebpf_object_file.specs.declared.section.Section.{Section}
use Rattle.ebpf_object_file.specs.Section.{section_of, sections_in}
use Rattle.ebpf_object_file.specs.Data.{has_entries, relocates}
use Rattle.ebpf_object_file.specs.Reading.{AreMarkedBelow}
use Rattle.ebpf_object_file.proofs.Objects.{both, eq, eq_test}
use Rattle.ebpf_object_file.proofs.Slots.{isnt, is}
use Rattle.ebpf_object_file.proofs.Below.{any_zero, any_now, any_kept}

-- no section is marked at first
pub none_marked : (file : List ℕ) (marks : List Bool) → length marks ≡ sections_in file → ((i : ℕ) → slice_index_or marks i false ≡ false)
    → AreMarkedBelow file 0 marks
none_marked file marks all fresh = record { all = all; each = λ i lt. fresh i ∙ sym (any_zero (λ k. relocates i (section_of file k))) }

-- a section header that marks none
pub same_marked : (file : List ℕ) (n : ℕ) (s : Section) (marks : List Bool) → s ≡ section_of file n
    → (has_entries s ≡ false) ⊎ (sections_in file ≤ s.info) → AreMarkedBelow file n marks → AreMarkedBelow file (n + 1) marks
same_marked file n s marks same no_mark h = record {
  all = h.all;
  each = λ i lt. h.each i lt ∙ sym (any_kept (λ k. relocates i (section_of file k)) n
      (subst (λ (x : Section). relocates i x ≡ false) same (isnt (relocates i s) (λ t. let parts = both _ _ t in elim no_mark [
        | inl other ↦ is (has_entries s) other parts.0
        | inr beyond ↦ let e : s.info ≡ i = eq _ _ parts.1 in omega (arith, beyond, e, lt)
      ]))));
}

-- one that marks a section
pub one_marked : (file : List ℕ) (n : ℕ) (s : Section) (marks : List Bool) → s ≡ section_of file n → has_entries s ≡ true → s.info < sections_in file
    → AreMarkedBelow file n marks → AreMarkedBelow file (n + 1) (slice_set marks s.info true)
one_marked file n s marks same entries inside h = record {
  all = length-set marks s.info true ∙ h.all;
  each = λ i lt. elim (eqb_tells i s.info) [
    | inl e ↦ ap (λ (x : ℕ). slice_index_or (slice_set marks s.info true) x false) e.1
        ∙ get_or-set_same marks s.info true false (subst (λ (x : ℕ). s.info < x) (sym h.all) inside)
        ∙ sym (any_now (λ k. relocates i (section_of file k)) n (subst (λ (x : Section). relocates i x ≡ true) same
        (and_from _ _ entries (eq_test _ _ (sym e.1)))))
    | inr e ↦ get_or-set_other marks s.info i true false e.1 ∙ h.each i lt
        ∙ sym (any_kept (λ k. relocates i (section_of file k)) n (subst (λ (x : Section). relocates i x ≡ false) same
        (isnt (relocates i s) (λ t. e.1 (sym (eq _ _ (both _ _ t).1))))))
  ];
}
