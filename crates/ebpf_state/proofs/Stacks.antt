-- The topmost words of the stack, and the words below them of which nothing is known.
use Rattle.std.proofs.Common.{◌≡◌, ℕ, zero, suc, ◌+◌, ◌-◌, ◌≤◌, List, [], ◌∷◌, ◌++◌, length, drop, refl, sym, ap, ◌∙◌, arith, length-append, set, length-set}
use Rattle.std.specs.Prelude.{replicate, map}
use Rattle.std.specs.Int.Bits.{and_zero_l, and_zero_r}
use Rattle.std.proofs.lemmas.List.{length-map, length-replicate, set-append_right, replicate-append-replicate, append_assoc}
use Rattle.ebpf_state.specs.declared.value.Abs.TheVariants.{Unset}
use Rattle.ebpf_state.specs.declared.word.Word.{Word}
use Rattle.ebpf_state.specs.declared.word.Word.TheVariants.{Spill, Bytes}
use Rattle.ebpf_state.specs.Words.{joined_word, all_words}
use Rattle.ebpf_state.specs.States.{joined_list}

-- with a word of which nothing is known, nothing is known
pub joined_nothing : (w : Word) → joined_word (Bytes 0) w ≡ Bytes 0
joined_nothing (Bytes b) = ap Bytes (and_zero_l b)
joined_nothing (Spill Unset) = refl
joined_nothing (Spill _) = refl

pub length-all_words : (words : List Word) → length words ≤ 64 → length (all_words words) ≡ 64
length-all_words words few = length-append (replicate (64 - length words) (Bytes 0)) words ∙ omega (arith, length-replicate (64 - length words) (Bytes 0), few)

-- the join of two stacks, from the join of the last words of one
pub joined_below : (n : ℕ) (left right : List Word) → n ≤ length right
    → replicate n (Bytes 0) ++ joined_list joined_word left (drop n right) ≡ joined_list joined_word (replicate n (Bytes 0) ++ left) right
joined_below zero left right le = refl
joined_below (suc n) left [] le = absurd (omega arith)
joined_below (suc n) left (r ∷ rs) le =
    ap (λ (ws : List Word). Bytes 0 ∷ ws) (joined_below n left rs (omega arith))
    ∙ ap (λ (w : Word). w ∷ joined_list joined_word (replicate n (Bytes 0) ++ left) rs) (sym (joined_nothing r))

nothing_joined : (w : Word) → joined_word w (Bytes 0) ≡ Bytes 0
nothing_joined (Bytes a) = ap Bytes (and_zero_r a)
nothing_joined (Spill Unset) = refl
nothing_joined (Spill _) = refl

-- the same, from the last words of the other
joined_above : (n : ℕ) (left right : List Word) → n ≤ length left
    → replicate n (Bytes 0) ++ joined_list joined_word (drop n left) right ≡ joined_list joined_word left (replicate n (Bytes 0) ++ right)
joined_above zero left right le = refl
joined_above (suc n) [] right le = absurd (omega arith)
joined_above (suc n) (l ∷ ls) right le =
    ap (λ (ws : List Word). Bytes 0 ∷ ws) (joined_above n ls right (omega arith))
    ∙ ap (λ (w : Word). w ∷ joined_list joined_word ls (replicate n (Bytes 0) ++ right)) (sym (nothing_joined l))

dropped : (m n : ℕ) (words : List Word) → drop m (replicate n (Bytes 0) ++ words) ≡ replicate (n - m) (Bytes 0) ++ drop (m - n) words
dropped zero n words = rw (none, all) refl
  where
    none : 0 - n ≡ 0
    none = omega arith

    all : n - 0 ≡ n
    all = omega arith
dropped (suc m) zero words = rw (none, all) refl
  where
    none : 0 - suc m ≡ 0
    none = omega arith

    all : suc m - 0 ≡ suc m
    all = omega arith
dropped (suc m) (suc n) words = rw (low, high) (dropped m n words)
  where
    low : suc n - suc m ≡ n - m
    low = omega arith

    high : suc m - suc n ≡ m - n
    high = omega arith

-- the join of two stacks, from that of the words that both keep
pub all_words-joined : (left right joined : List Word) (below beyond : ℕ) → length left ≤ 64 → length right ≤ 64
    → below ≡ length left - length right → beyond ≡ length right - length left → length joined ≡ length left
    → joined ≡ replicate below (Bytes 0) ++ joined_list joined_word (drop below left) (drop beyond right)
    → all_words joined ≡ joined_list joined_word (all_words left) (all_words right)
all_words-joined left right joined below beyond few_left few_right is_below is_beyond same e =
    let all : length (all_words right) ≡ 64 = length-all_words right few_right in
    let fits : 64 - length left ≤ length (all_words right) = omega (arith, all) in
    let low : (64 - length right) - (64 - length left) ≡ below = omega (arith, is_below, few_left, few_right) in
    let high : (64 - length left) - (64 - length right) ≡ beyond = omega (arith, is_beyond, few_left, few_right) in
    let lies : drop (64 - length left) (all_words right) ≡ replicate below (Bytes 0) ++ drop beyond right =
    dropped (64 - length left) (64 - length right) right
    ∙ (ap (λ (n : ℕ). replicate n (Bytes 0) ++ drop ((64 - length left) - (64 - length right)) right) low
    ∙ ap (λ (n : ℕ). replicate below (Bytes 0) ++ drop n right) high) in
    let top : joined ≡ joined_list joined_word left (drop (64 - length left) (all_words right)) =
    e ∙ (joined_above below left (drop beyond right) (omega (arith, is_below)) ∙ ap (joined_list joined_word left) (sym lies)) in
    ap (λ (n : ℕ). replicate (64 - n) (Bytes 0) ++ joined) same
    ∙ (ap (λ (ws : List Word). replicate (64 - length left) (Bytes 0) ++ ws) top
    ∙ joined_below (64 - length left) left (all_words right) fits)

-- a change that leaves a word of which nothing is known as it is
pub all_words-map : (f : Word → Word) (words : List Word) → f (Bytes 0) ≡ Bytes 0 → all_words (map f words) ≡ map f (all_words words)
all_words-map f words same =
    ap (λ (n : ℕ). replicate (64 - n) (Bytes 0) ++ map f words) (length-map words f)
    ∙ behind (64 - length words)
  where
    behind : (n : ℕ) → replicate n (Bytes 0) ++ map f words ≡ map f (replicate n (Bytes 0) ++ words)
    behind zero = refl
    behind (suc n) = ap (λ (w : Word). w ∷ (replicate n (Bytes 0) ++ map f words)) (sym same) ∙ ap (λ (ws : List Word). f (Bytes 0) ∷ ws) (behind n)

-- more of the words that nothing is known of are kept
pub all_words-kept : (words : List Word) (j : ℕ) → j + length words ≤ 64 → all_words (replicate j (Bytes 0) ++ words) ≡ all_words words
all_words-kept words j le =
    let long : length (replicate j (Bytes 0) ++ words) ≡ j + length words =
    length-append (replicate j (Bytes 0)) words ∙ ap (λ (n : ℕ). n + length words) (length-replicate j (Bytes 0)) in
    let count : (64 - (j + length words)) + j ≡ 64 - length words = omega (arith, le) in
    ap (λ (n : ℕ). replicate (64 - n) (Bytes 0) ++ (replicate j (Bytes 0) ++ words)) long
    ∙ (sym (append_assoc (replicate (64 - (j + length words)) (Bytes 0)) (replicate j (Bytes 0)) words)
    ∙ (ap (λ (ws : List Word). ws ++ words) (replicate-append-replicate (64 - (j + length words)) j (Bytes 0))
    ∙ ap (λ (n : ℕ). replicate n (Bytes 0) ++ words) count))

-- a word among those that are kept is written
pub all_words-set : (words : List Word) (w : ℕ) (v : Word) → 64 - length words ≤ w
    → all_words (set words (w - (64 - length words)) v) ≡ set (all_words words) w v
all_words-set words w v le =
    ap (λ (n : ℕ). replicate (64 - n) (Bytes 0) ++ set words (w - (64 - length words)) v) (length-set words (w - (64 - length words)) v)
    ∙ sym (set-append_right (replicate (64 - length words) (Bytes 0)) words (64 - length words) w v (length-replicate (64 - length words) (Bytes 0)) le)
