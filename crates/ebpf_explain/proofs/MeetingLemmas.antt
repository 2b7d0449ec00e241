-- What a push or a writer leaves after several texts.
use Rattle.std.proofs.Common.{◌≡◌, ℕ, List, ◌++◌, ap, ◌∙◌, append_assoc, cond, Result, Ok, Err, is_ok, OnOk}

-- after three more texts
pub pushed_fourth : {A E : Type 0} (result : Result A E) (before one two three new a b c d : List ℕ) → one ≡ before ++ a → two ≡ one ++ b → three ≡ two ++ c
    → new ≡ cond (is_ok result) (three ++ d) three → OnOk result (new ≡ before ++ (a ++ (b ++ (c ++ d))))
pushed_fourth (Err e) before one two three new a b c d f g h k = tt
pushed_fourth (Ok r) before one two three new a b c d f g h k =
    k ∙ (ap (λ (xs : List ℕ). xs ++ d) h ∙ (append_assoc two c d ∙ (ap (λ (xs : List ℕ). xs ++ (c ++ d)) g ∙ (append_assoc one b (c ++ d)
    ∙ (ap (λ (xs : List ℕ). xs ++ (b ++ (c ++ d))) f ∙ append_assoc before a (b ++ (c ++ d)))))))

-- what was written after two texts, where it is written otherwise
pub behind_two : {A E : Type 0} (result : Result A E) (before one two new a b c d : List ℕ) → one ≡ before ++ a → two ≡ one ++ b
    → c ≡ d → OnOk result (new ≡ two ++ c) → OnOk result (new ≡ before ++ (a ++ (b ++ d)))
behind_two (Err e) before one two new a b c d f g h k = tt
behind_two (Ok r) before one two new a b c d f g h k =
    k ∙ (ap (λ (xs : List ℕ). two ++ xs) h
    ∙ (ap (λ (xs : List ℕ). xs ++ d) g ∙ (append_assoc one b d ∙ (ap (λ (xs : List ℕ). xs ++ (b ++ d)) f ∙ append_assoc before a (b ++ d)))))
