-- If one byte more is read than are declared, the text is that of the whole input: if there are more, there is none either way.
use Rattle.std.proofs.Common.{◌≡◌, ◌≤◌, ◌+◌, ℕ, nat_lt, Bool, true, false, List, ◌++◌, length, take, drop, Option, Some, None}
use Rattle.std.proofs.Common.{IfSome, refl, sym, ap, ◌∙◌, arith}
use Rattle.std.proofs.lemmas.Bool.Decides.{nat_tests}
use Rattle.std.proofs.lemmas.List.{append_cancel_left, length-take-le, take-append-drop, take_all}
use Rattle.std.specs.Io.KnownBytes.{Consumes}
use Rattle.ebpf_context.specs.ContextText.{most_read, text_of, text_of_input}

more : (n k : ℕ) → n + 1 ≡ k → nat_lt n k ≡ true
more n k is = grind (arith, nat_tests)

fewer : (n k : ℕ) → nat_lt n k ≡ false → k ≤ n + 1
fewer n k is = grind (arith, nat_tests)

enough : (n k : ℕ) → nat_lt n k ≡ true → n + 1 ≤ k
enough n k is = grind (arith, nat_tests)

same : (n : ℕ) (input : List ℕ) (b : Bool) → nat_lt n (length input) ≡ b → text_of (take (n + 1) input) (Some n) ≡ text_of input (Some n)
same n input true is = rw (is, more n (length (take (n + 1) input)) (sym (length-take-le (n + 1) input (enough n (length input) is)))) refl
same n input false is = ap (λ (xs : List ℕ). text_of xs (Some n)) (take_all (n + 1) input (fewer n (length input) is))

pub read_whole : (known : Option (List ℕ)) (limit : ℕ) (given : List ℕ) (declared : Option ℕ) (text : Option (List ℕ))
    → limit ≡ most_read declared → IfSome known (λ input. given ≡ take limit input) → text ≡ text_of given declared
    → IfSome known (λ input. text ≡ text_of_input input declared)
read_whole None limit given declared text is read made = tt
read_whole (Some input) limit given None text is read made = made ∙ rw (read, is) refl
read_whole (Some input) limit given (Some n) text is read made = made ∙ (rw (read, is) refl ∙ same n input (nat_lt n (length input)) refl)

-- and what is left is the rest
pub read_rest : (known left : Option (List ℕ)) (limit : ℕ) (given : List ℕ) (declared : Option ℕ)
    → limit ≡ most_read declared → IfSome known (λ input. given ≡ take limit input) → Consumes known left given
    → IfSome known (λ input. left ≡ Some (drop (most_read declared) input))
read_rest None left limit given declared is read gone = tt
read_rest (Some input) None limit given declared is read gone = absurd gone
read_rest (Some input) (Some left) limit given declared is read gone =
    let front : take limit input ++ left ≡ take limit input ++ drop limit input =
    ap (λ (xs : List ℕ). xs ++ left) (sym read) ∙ (sym gone ∙ sym (take-append-drop limit input)) in
    ap Some (append_cancel_left (take limit input) left (drop limit input) front) ∙ ap (λ (n : ℕ). Some (drop n input)) is
