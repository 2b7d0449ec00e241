-- Of each section the last symbol that has all of its bytes, after one more symbol.
use Rattle.std.proofs.Common.{◌≡◌, ◌<◌, ◌+◌, ℕ, Bool, true, false, List, length, Option, Some, None, zero, suc, slice_index_or, slice_set, sym, ap, subst, ◌∙◌, refl, arith, inl, inr, add-one}
use Rattle.std.specs.Prelude.{cond}
use Rattle.std.proofs.lemmas.Bool.{and_from}
use Rattle.std.proofs.lemmas.Bool.Decides.{eqb_tells}
use Rattle.std.proofs.lemmas.List.{length-set, get_or-set_same, get_or-set_other}
use Rattle.ebpf_object_file.specs.declared.symbol.Symbol.{Symbol}
use Rattle.ebpf_object_file.specs.Section.{sections_in}
use Rattle.ebpf_object_file.specs.Symbol.{symbol_of}
use Rattle.ebpf_object_file.specs.DataNames.{last_below, is_whole, is_whole_of, AreWholeBelow}
use Rattle.ebpf_object_file.proofs.Objects.{both, eq, eq_test}
use Rattle.ebpf_object_file.proofs.Slots.{isnt, is}

-- none below 0, and one more number
last_zero : (test : ℕ → Bool) → last_below test 0 ≡ None
unfolding last_below
last_zero test = refl

last_suc : (test : ℕ → Bool) (n : ℕ) → last_below test (suc n) ≡ cond (test n) (Some n) (last_below test n)
unfolding last_below
last_suc test n = refl

last_more : (test : ℕ → Bool) (n : ℕ) → last_below test (n + 1) ≡ cond (test n) (Some n) (last_below test n)
last_more test n = ap (last_below test) (add-one n) ∙ last_suc test n

last_now : (test : ℕ → Bool) (n : ℕ) → test n ≡ true → last_below test (n + 1) ≡ Some n
last_now test n here = last_more test n ∙ ap (λ (b : Bool). cond b (Some n) (last_below test n)) here

last_kept : (test : ℕ → Bool) (n : ℕ) → test n ≡ false → last_below test (n + 1) ≡ last_below test n
last_kept test n here = last_more test n ∙ ap (λ (b : Bool). cond b (Some n) (last_below test n)) here

-- what is found is below
same_number : (j k : ℕ) → Some j ≡ Some k → j ≡ k
same_number j k e = cc

found_inside : (test : ℕ → Bool) (n k : ℕ) (b : Bool) → (last_below test n ≡ Some k → k < n) → cond b (Some n) (last_below test n) ≡ Some k → k < suc n
found_inside test n k true below e = let same = same_number n k e in omega (arith, same)
found_inside test n k false below e = let lt = below e in omega (arith, lt)

last_inside : (test : ℕ → Bool) (n k : ℕ) → last_below test n ≡ Some k → k < n
last_inside test zero k e = let none = sym (last_zero test) ∙ e in absurd (cc)
last_inside test (suc n) k e = found_inside test n k (test n) (last_inside test n k) (sym (last_suc test n) ∙ e)

-- no symbol is found at first
pub none_whole : (file symbols : List ℕ) (whole : List (Option ℕ)) → length whole ≡ sections_in file → ((i : ℕ) → slice_index_or whole i None ≡ None)
    → AreWholeBelow file symbols 0 whole
none_whole file symbols whole all fresh =
    record { all = all; each = λ i lt. fresh i ∙ sym (last_zero (λ k. is_whole_of file i (symbol_of symbols k))) }

-- a symbol that hasn't all bytes of its section
pub same_whole : (file symbols : List ℕ) (n : ℕ) (s : Symbol) (whole : List (Option ℕ)) → s ≡ symbol_of symbols n → is_whole file s ≡ false
    → AreWholeBelow file symbols n whole → AreWholeBelow file symbols (n + 1) whole
same_whole file symbols n s whole same not_whole h = record {
  all = h.all;
  each = λ i lt. h.each i lt ∙ sym (last_kept (λ k. is_whole_of file i (symbol_of symbols k)) n
      (subst (λ (x : Symbol). is_whole_of file i x ≡ false) same (isnt (is_whole_of file i s) (λ t. is (is_whole file s) not_whole (both _ _ t).0))));
}

-- one that has
pub one_whole : (file symbols : List ℕ) (n : ℕ) (s : Symbol) (whole : List (Option ℕ)) → s ≡ symbol_of symbols n → is_whole file s ≡ true
    → s.section < sections_in file → AreWholeBelow file symbols n whole → AreWholeBelow file symbols (n + 1) (slice_set whole s.section (Some n))
one_whole file symbols n s whole same has inside h = record {
  all = length-set whole s.section (Some n) ∙ h.all;
  each = λ i lt. elim (eqb_tells i s.section) [
    | inl e ↦ ap (λ (x : ℕ). slice_index_or (slice_set whole s.section (Some n)) x None) e.1
        ∙ get_or-set_same whole s.section (Some n) None (subst (λ (x : ℕ). s.section < x) (sym h.all) inside)
        ∙ sym (last_now (λ k. is_whole_of file i (symbol_of symbols k)) n (subst (λ (x : Symbol). is_whole_of file i x ≡ true) same
        (and_from _ _ has (eq_test _ _ (sym e.1)))))
    | inr e ↦ get_or-set_other whole s.section i (Some n) None e.1 ∙ h.each i lt
        ∙ sym (last_kept (λ k. is_whole_of file i (symbol_of symbols k)) n (subst (λ (x : Symbol). is_whole_of file i x ≡ false) same
        (isnt (is_whole_of file i s) (λ t. e.1 (sym (eq _ _ (both _ _ t).1))))))
  ];
}

-- what is found for a section is a symbol of the table
pub whole_inside : (file symbols : List ℕ) (n : ℕ) (whole : List (Option ℕ)) (i k : ℕ) → AreWholeBelow file symbols n whole → i < sections_in file
    → slice_index_or whole i None ≡ Some k → k < n
whole_inside file symbols n whole i k are lt found = last_inside (λ j. is_whole_of file i (symbol_of symbols j)) n k (sym (are.each i lt) ∙ found)
