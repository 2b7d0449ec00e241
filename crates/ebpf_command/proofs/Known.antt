-- Bytes that a reader has left and a writer holds, over several calls.
use Rattle.std.proofs.Common.{◌≡◌, ℕ, ◌+◌, ◌-◌, ◌≤◌, List, ◌++◌, length, take, drop, Option, Some, None, sym, ◌∙◌, ap, subst, append_assoc, arith}
use Rattle.std.specs.Prelude.{IfSome}
use Rattle.std.specs.Io.KnownBytes.{Consumes, Appends, IsAtEnd}
use Rattle.std.proofs.Math.Seq.{take-append_seam, take-add}
use Rattle.std.proofs.lemmas.List.{take-append-le}
use Rattle.std.proofs.lemmas.Grind.{common_steps}

-- some bytes were consumed, and then some more
pub Consumes-more : (a b c : Option (List ℕ)) (xs ys : List ℕ) → Consumes a b xs → Consumes b c ys → Consumes a c (xs ++ ys)
Consumes-more None b c xs ys h k = tt
Consumes-more (Some old) None c xs ys h k = absurd h
Consumes-more (Some old) (Some mid) None xs ys h k = absurd k
Consumes-more (Some old) (Some mid) (Some new) xs ys h k = h ∙ (ap (λ (zs : List ℕ). xs ++ zs) k ∙ sym (append_assoc xs ys new))

-- some bytes were appended, and then some more
pub Appends-more : (a b c : Option (List ℕ)) (xs ys : List ℕ) → Appends a b xs → Appends b c ys → Appends a c (xs ++ ys)
Appends-more None b c xs ys h k = tt
Appends-more (Some old) None c xs ys h k = absurd h
Appends-more (Some old) (Some mid) None xs ys h k = absurd k
Appends-more (Some old) (Some mid) (Some new) xs ys h k = k ∙ (ap (λ (zs : List ℕ). zs ++ ys) h ∙ append_assoc old xs ys)

-- what was consumed is the front of a long input
pub read_front : (most : ℕ) (a b : Option (List ℕ)) (xs : List ℕ) → Consumes a b xs → length xs ≡ most → IfSome a (λ input. xs ≡ take most input)
read_front most None b xs h full = tt
read_front most (Some old) None xs h full = absurd h
read_front most (Some old) (Some new) xs h full =
    sym (ap (λ (zs : List ℕ). take most zs) h ∙ (ap (λ (n : ℕ). take n (xs ++ new)) (sym full) ∙ take-append_seam xs new))

-- a list that is no longer than a number is its own front
pub front_of_short : (n : ℕ) (xs : List ℕ) → length xs ≤ n → take n xs ≡ xs
front_of_short n xs few = grind (arith, common_steps)

-- what was consumed is all of a short input
pub read_all : (most : ℕ) (a b : Option (List ℕ)) (xs : List ℕ) → Consumes a b xs → IsAtEnd b → length xs ≤ most → IfSome a (λ input. xs ≡ take most input)
read_all most None b xs h end few = tt
read_all most (Some old) None xs h end few = absurd h
read_all most (Some old) (Some new) xs h end few =
    let same : old ≡ xs = h ∙ rw end (grind (arith, common_steps)) in
    sym (ap (λ (zs : List ℕ). take most zs) same ∙ front_of_short most xs few)

-- the front of a text, and what was written of its rest, is a longer front
take_more : (place n : ℕ) (text : List ℕ) → take (place + n) text ≡ take place text ++ take n (take (length text - place) (drop place text))
take_more place n text =
    let all : take (length text - place) (drop place text) ≡ drop place text = front_of_short _ _ (grind (arith, common_steps)) in
    rw all (take-add place n text)

fits_more : (place n : ℕ) (text : List ℕ) → place ≤ length text → n ≤ length (take (length text - place) (drop place text)) → place + n ≤ length text
fits_more place n text fits more = grind (arith, common_steps)

-- a front of a text was appended, and then some of its rest
pub Appends-front : (a b c : Option (List ℕ)) (place n : ℕ) (text : List ℕ) → place ≤ length text
    → n ≤ length (take (length text - place) (drop place text)) → Appends a b (take place text)
    → Appends b c (take n (take (length text - place) (drop place text)))
    → Appends a c (take (place + n) text) × (place + n ≤ length text)
Appends-front a b c place n text fits more h k =
    (subst (λ (zs : List ℕ). Appends a c zs) (sym (take_more place n text)) (Appends-more a b c _ _ h k), fits_more place n text fits more)

-- bytes were consumed, and some more, which are at the front of a buffer
pub Consumes-chunk : (a b c : Option (List ℕ)) (xs buf rest new : List ℕ) (n : ℕ) → n ≤ length buf → Consumes a b xs
    → Consumes b c (take n buf) → new ≡ xs ++ take n (buf ++ rest) → Consumes a c new × (length new ≡ length xs + n)
Consumes-chunk a b c xs buf rest new n fits h k e =
    let same : new ≡ xs ++ take n buf = e ∙ ap (λ (zs : List ℕ). xs ++ zs) (take-append-le n buf rest fits) in
    (subst (λ (zs : List ℕ). Consumes a c zs) (sym same) (Consumes-more a b c _ _ h k), rw same (grind (arith, common_steps)))

-- the last read gave nothing: all was read
pub read_whole : (most : ℕ) (a b c : Option (List ℕ)) (xs buf : List ℕ) (n : ℕ) → n ≡ 0 → Consumes a b xs → Consumes b c (take n buf)
    → IsAtEnd c → length xs ≤ most → IfSome a (λ input. xs ≡ take most input)
read_whole most a b c xs buf n nothing h k end few =
    let same : xs ++ take n buf ≡ xs = rw nothing (grind (arith, common_steps)) in
    read_all most a c xs (subst (λ (zs : List ℕ). Consumes a c zs) same (Consumes-more a b c _ _ h k)) end few
