-- Texts that end, or begin, at the first byte of some kind.
use Rattle.std.proofs.Common.{◌≡◌, ◌<◌, ℕ, false, true, List, [], ◌∷◌, ◌++◌, length, take, drop, ◌-◌, refl, ap, subst, sym, ◌∙◌, arith}
use Rattle.std.specs.Prelude.{◌==◌, not, nat_lt, slice_index}
use Rattle.std.specs.List.{prefix_len}
use Rattle.std.proofs.lemmas.List.Sums.{prefix_len_is}
use Rattle.std.proofs.lemmas.List.{take_all, drop_all, take_rest, length-append}
use Rattle.std.proofs.lemmas.Bool.{and_from}
use Rattle.std.proofs.lemmas.Bool.Decides.{Decides-eqb}
use Rattle.std.proofs.lemmas.Slice.Eq.{starts_is}
use Rattle.ebpf_object_file.specs.Text.{whole_text, is_named}
use Rattle.ebpf_object_file.proofs.Objects.{both, eq, lt, eq_test, lt_test}
use Rattle.ebpf_object_file.specs.Lines.{is_blank, trimmed}

is_zero : (b : ℕ) → b ≡ 0 → not (b == 0) ≡ false
is_zero b e = rw e refl

-- the first zero is here
pub whole_here : (bytes : List ℕ) (end : ℕ) → end < length bytes → ((k : ℕ) → k < end → not (slice_index bytes k == 0) ≡ true)
    → slice_index bytes end ≡ 0 → take end bytes ≡ whole_text bytes
whole_here bytes end lt before here =
    let n : prefix_len (λ b. not (b == 0)) bytes ≡ end = prefix_len_is (λ b. not (b == 0)) bytes end 0 (omega arith) before (λ _. is_zero _ here) in
    rw n refl

-- there is none
pub whole_all : (bytes : List ℕ) (end : ℕ) → length bytes ≡ end → ((k : ℕ) → k < end → not (slice_index bytes k == 0) ≡ true)
    → bytes ≡ whole_text bytes
whole_all bytes end same before =
    let n : prefix_len (λ b. not (b == 0)) bytes ≡ end =
    prefix_len_is (λ b. not (b == 0)) bytes end 0 (omega (arith, same)) before (λ lt. absurd (omega (arith, same, lt))) in
    rw n (sym (take_all end bytes (omega (arith, same))))

-- the first byte that is no blank is here
pub trimmed_here : (text : List ℕ) (start : ℕ) → start < length text → ((k : ℕ) → k < start → is_blank (slice_index text k) ≡ true)
    → is_blank (slice_index text start) ≡ false → take (length text - start) (drop start text) ≡ trimmed text
trimmed_here text start lt before here =
    let n : prefix_len is_blank text ≡ start = prefix_len_is is_blank text start 0 (omega arith) before (λ _. here) in
    rw n (take_rest text start)

-- there is none
pub trimmed_all : (text : List ℕ) (start : ℕ) → length text ≡ start → ((k : ℕ) → k < start → is_blank (slice_index text k) ≡ true)
    → [] ≡ trimmed text
trimmed_all text start same before =
    let n : prefix_len is_blank text ≡ start = prefix_len_is is_blank text start 0 (omega (arith, same)) before (λ lt. absurd (omega (arith, same, lt))) in
    rw n (sym (drop_all start text (omega (arith, same))))

-- what is after a list
at_seam : (name rest : List ℕ) (byte : ℕ) → slice_index (name ++ byte ∷ rest) (length name) ≡ byte
at_seam [] rest byte = refl
at_seam (n ∷ name) rest byte = at_seam name rest byte

after_name : (name rest : List ℕ) → length name < length (name ++ rest) → slice_index (name ++ rest) (length name) ≡ 0
    → (more : List ℕ) × (rest ≡ 0 ∷ more)
after_name name [] longer here = absurd (omega (arith, length-append name [], longer))
after_name name (byte ∷ rest) longer here = (rest, ap (λ (b : ℕ). b ∷ rest) (sym (at_seam name rest byte) ∙ here))

-- the name is there, and a zero after it
pub text_from_test : (strings name : List ℕ) (at : ℕ) → is_named strings at name ≡ true → (rest : List ℕ) × (drop at strings ≡ name ++ 0 ∷ rest)
text_from_test strings name at e =
    let parts = both _ _ e in
    let front = both _ _ parts.0 in
    let begins : drop at strings ≡ name ++ drop (length name) (drop at strings) = (starts_is Decides-eqb (drop at strings) name _ refl).0 front.0 in
    let tail = drop (length name) (drop at strings) in
    let longer : length name < length (name ++ tail) = subst (λ (x : List ℕ). length name < length x) begins (lt _ _ front.1) in
    let here : slice_index (name ++ tail) (length name) ≡ 0 = subst (λ (x : List ℕ). slice_index x (length name) ≡ 0) begins (eq _ _ parts.1) in
    let more = after_name name tail longer here in
    (more.0, begins ∙ ap (λ (x : List ℕ). name ++ x) more.1)

pub test_from_text : (strings name rest : List ℕ) (at : ℕ) → drop at strings ≡ name ++ 0 ∷ rest → is_named strings at name ≡ true
test_from_text strings name rest at e =
    let begins = (starts_is Decides-eqb (drop at strings) name _ refl).1 (0 ∷ rest) e in
    let longer : nat_lt (length name) (length (drop at strings)) ≡ true = lt_test _ _ (rw e (omega (arith, length-append name (0 ∷ rest)))) in
    let here : (slice_index (drop at strings) (length name) == 0) ≡ true =
    eq_test _ _ (ap (λ (x : List ℕ). slice_index x (length name)) e ∙ at_seam name rest 0) in
    and_from _ _ (and_from _ _ begins longer) here
