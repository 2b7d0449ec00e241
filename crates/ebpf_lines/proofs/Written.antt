-- A text after another.
use Rattle.std.proofs.Common.{◌≡◌, ℕ, List, ◌++◌, Result, Ok, Err, OnOk, ap, ◌∙◌, append_assoc}

pub all_written : {A E : Type 0} (result : Result A E) (before one new a b : List ℕ) → one ≡ before ++ a → OnOk result (new ≡ one ++ b) → OnOk result (new ≡ before ++ (a ++ b))
all_written (Ok _) before one new a b is h = h ∙ ap (λ (xs : List ℕ). xs ++ b) is ∙ append_assoc before a b
all_written (Err _) before one new a b is h = tt
