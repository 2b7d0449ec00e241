-- The texts of numbers, one after another, and what a push leaves.
use Rattle.std.proofs.Common.{◌≡◌, ℕ, ◌+◌, List, [], ◌++◌, sym, ap, ◌∙◌, append_assoc, add-one, arith, cond, Result, Ok, Err, is_ok, OnOk}
use Rattle.std.proofs.lemmas.Grind.{common_steps}
use Rattle.ebpf_explain.specs.StackWords.{texts_below}

pub no_text : (before : List ℕ) (text_of : ℕ → List ℕ) → before ≡ before ++ texts_below 0 text_of
unfolding texts_below
no_text before text_of = sym (nothing before) where
  nothing : (xs : List ℕ) → xs ++ [] ≡ xs
  nothing xs = grind (arith, common_steps)

pub one_text : (before text new here : List ℕ) (n : ℕ) (text_of : ℕ → List ℕ) → here ≡ text_of n → text ≡ before ++ texts_below n text_of → new ≡ text ++ here
    → new ≡ before ++ texts_below (n + 1) text_of
unfolding texts_below
one_text before text new here n text_of is h k =
    rw add-one (k ∙ (ap (λ (xs : List ℕ). text ++ xs) is ∙ (ap (λ (xs : List ℕ). xs ++ text_of n) h ∙ append_assoc before (texts_below n text_of) (text_of n))))

-- after a text
pub pushed : {A E : Type 0} (result : Result A E) (text new here : List ℕ) → new ≡ cond (is_ok result) (text ++ here) text → OnOk result (new ≡ text ++ here)
pushed (Ok _) text new here k = k
pushed (Err _) text new here k = tt

-- after two more texts
pub pushed_third : {A E : Type 0} (result : Result A E) (before one two new a b c : List ℕ) → one ≡ before ++ a → two ≡ one ++ b
    → new ≡ cond (is_ok result) (two ++ c) two → OnOk result (new ≡ before ++ (a ++ (b ++ c)))
pushed_third (Ok _) before one two new a b c f g k =
    k ∙ (ap (λ (xs : List ℕ). xs ++ c) g ∙ (ap (λ (xs : List ℕ). (xs ++ b) ++ c) f ∙ (append_assoc (before ++ a) b c ∙ append_assoc before a (b ++ c))))
pushed_third (Err _) before one two new a b c f g k = tt

-- the same, where the first of them has a number in it
pub pushed_behind_number : {A E : Type 0} (result : Result A E) (before one two new a n b c d : List ℕ) → one ≡ before ++ (a ++ (n ++ b)) → two ≡ one ++ c
    → new ≡ cond (is_ok result) (two ++ d) two → OnOk result (new ≡ before ++ (a ++ (n ++ (b ++ (c ++ d)))))
pushed_behind_number result before one two new a n b c d f g k =
    let e : (a ++ (n ++ b)) ++ (c ++ d) ≡ a ++ (n ++ (b ++ (c ++ d))) = append_assoc a (n ++ b) (c ++ d)
    ∙ ap (λ (xs : List ℕ). a ++ xs) (append_assoc n b (c ++ d)) in
    rw (← e) (pushed_third result before one two new (a ++ (n ++ b)) c d f g k)

-- after two texts that were written, the last of which says what is equal to what is wanted
pub told_third : {A E : Type 0} (result : Result A E) (before one two new a b said wanted : List ℕ) → one ≡ before ++ a → two ≡ one ++ b → said ≡ wanted
    → OnOk result (new ≡ two ++ said) → OnOk result (new ≡ before ++ (a ++ (b ++ wanted)))
told_third (Ok _) before one two new a b said wanted f g same k =
    k ∙ (ap (λ (xs : List ℕ). xs ++ said) g
    ∙ (ap (λ (xs : List ℕ). (xs ++ b) ++ said) f ∙ (append_assoc (before ++ a) b said ∙ (append_assoc before a (b ++ said)
    ∙ ap (λ (xs : List ℕ). before ++ (a ++ (b ++ xs))) same))))
told_third (Err _) before one two new a b said wanted f g same k = tt
