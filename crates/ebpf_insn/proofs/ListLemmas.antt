-- One more element at the end of a list.
use Rattle.std.proofs.Common.{◌≡◌, ℕ, ◌+◌, ◌<◌, List, [], ◌∷◌, ◌++◌, length, Some, sym, ap, ◌∙◌, arith, below_more}
use Rattle.std.specs.Prelude.{slice_get}
use Rattle.std.proofs.lemmas.Option.{slice_get-get_or}
use Rattle.std.proofs.lemmas.List.{get_or_append_left, get_or_push, length_push, length-append}

pub slice_get-append_left : {X : Type 0} (xs ys : List X) (k : ℕ) (d : X) → k < length xs → slice_get (xs ++ ys) k ≡ slice_get xs k
slice_get-append_left xs ys k d lt =
    let longer : k < length (xs ++ ys) = omega (arith, length-append xs ys) in
    slice_get-get_or (xs ++ ys) k d longer ∙ ap Some (get_or_append_left xs ys d k lt) ∙ sym (slice_get-get_or xs k d lt)

pub slice_get-push : {X : Type 0} (xs : List X) (x : X) (n : ℕ) → length xs ≡ n → slice_get (xs ++ x ∷ []) n ≡ Some x
slice_get-push xs x n e =
    let longer : n < length (xs ++ x ∷ []) = omega (arith, length_push xs x) in
    slice_get-get_or (xs ++ x ∷ []) n x longer ∙ ap Some (get_or_push xs x x n e)

-- what each place has, after one more
pub each_push : {X : Type 0} (f : ℕ → X) (xs : List X) (x : X) (n : ℕ) → length xs ≡ n → x ≡ f n
    → ((k : ℕ) → k < n → slice_get xs k ≡ Some (f k)) → (k : ℕ) → k < n + 1 → slice_get (xs ++ x ∷ []) k ≡ Some (f k)
each_push f xs x n e here before = below_more _ _
    (λ k lt. let inside : k < length xs = omega arith in slice_get-append_left xs (x ∷ []) k x inside ∙ before k lt)
    (slice_get-push xs x n e ∙ ap Some here)
