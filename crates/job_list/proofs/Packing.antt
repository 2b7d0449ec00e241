-- What is packed comes back.
use Rattle.std.proofs.Common.{ℕ, suc, ◌≡◌, ◌≤◌, ◌<◌, ◌+◌, ◌-◌, ◌*◌, ◌/◌, ◌%◌, ◌^◌, List, [], ◌∷◌, ◌++◌, length, take, drop, set, slice_index_or}
use Rattle.std.proofs.Common.{refl, sym, ◌∙◌, arith, add-one}
use Rattle.std.proofs.lemmas.Nat.{div-mul-add, mod-mul-add, pow-add}
use Rattle.std.proofs.lemmas.List.{append-nil, append_assoc, drop_more, take_more_set}
use Rattle.std.proofs.Math.Nat.{pow-le-pow_right}
use Rattle.ebpf_machine.specs.declared.report.Reply.{Reply}
use Rattle.ebpf_machine.specs.declared.report.Reply.TheVariants.{Null, Granted, Empty, Shelf}
use Rattle.job_list.specs.FewAnswers.{code_of, reply_of, replies_from}

pub code_fits : (reply : Reply) → code_of reply < 4
code_fits Null = grind arith
code_fits Granted = grind arith
code_fits Empty = grind arith
code_fits Shelf = grind arith

comes_back : (reply : Reply) → reply_of (code_of reply) ≡ reply
comes_back Null = refl
comes_back Granted = refl
comes_back Empty = refl
comes_back Shelf = refl

-- one more reply before those that are packed
one_more : (n : ℕ) (codes : ℕ) (reply : Reply) → replies_from (suc n) (codes * 4 + code_of reply) ≡ reply ∷ replies_from n codes
one_more n codes reply =
    unfold replies_from in
    rw (div-mul-add codes 4 (code_of reply) (code_fits reply), mod-mul-add codes 4 (code_of reply) (code_fits reply), comes_back reply) refl

-- n codes are below four to the n
pub one_more_fits : (n codes code : ℕ) → codes < 4 ^ n → code < 4 → codes * 4 + code < 4 ^ (n + 1)
one_more_fits n codes code below small = rw (pow-add 4 n 1) (grind arith)

-- eight codes are below 65,536
pub within_two_bytes : (n codes : ℕ) → n ≤ 8 → codes < 4 ^ n → codes < 65536
within_two_bytes n codes few below =
    let most : 4 ^ n ≤ 65536 = pow-le-pow_right {n = 4} (grind arith) {i = n} {j = 8} few in
    grind arith

-- the answer before the last n, and those
at_last : (xs : List Reply) (n : ℕ) (d : Reply) → n < length xs → slice_index_or xs (length xs - 1 - n) d ∷ drop (length xs - n) xs ≡ drop (length xs - (n + 1)) xs
at_last xs n d left =
    let before : length xs - (n + 1) < length xs = grind arith in
    let here : length xs - 1 - n ≡ length xs - (n + 1) = grind arith in
    let next : length xs - n ≡ length xs - (n + 1) + 1 = grind arith in
    rw (here, next) (sym (drop_more xs (length xs - (n + 1)) d before))

-- with the answer before the last n packed, the last n and that are
pub next_is_packed : (answers : List Reply) (n codes code : ℕ) (d : Reply) → n < length answers
    → replies_from n codes ≡ drop (length answers - n) answers
    → code ≡ code_of (slice_index_or answers (length answers - 1 - n) d)
    → replies_from (n + 1) (codes * 4 + code) ≡ drop (length answers - (n + 1)) answers
next_is_packed answers n codes code d left packed told =
    let more : replies_from (suc n) (codes * 4 + code_of (slice_index_or answers (length answers - 1 - n) d)) ≡ drop (length answers - (n + 1)) answers =
    rw (one_more n codes (slice_index_or answers (length answers - 1 - n) d), packed) (at_last answers n d left) in
    rw (told) (rw (← add-one n) at more)

-- all are packed when the last one is
pub all_are_packed : (answers : List Reply) (n codes : ℕ) → n ≤ length answers → length answers ≤ n
    → replies_from n codes ≡ drop (length answers - n) answers → replies_from (length answers) codes ≡ answers
all_are_packed answers n codes few all packed =
    let same : length answers ≡ n = grind arith in
    let none : length answers - n ≡ 0 = grind arith in
    rw (same) (rw none at packed)

at_suc : (n codes : ℕ) → replies_from (suc n) codes ≡ reply_of (codes % 4) ∷ replies_from n (codes / 4)
at_suc n codes = unfold replies_from in refl

at_zero : (codes : ℕ) → replies_from 0 codes ≡ []
at_zero codes = unfold replies_from in refl

-- the next of what is packed, after those that are unpacked
pub one_is_unpacked : (room : List Reply) (n left codes : ℕ) (all : List Reply) (reply : Reply) → n < length room → n < left
    → take n room ++ replies_from (left - n) codes ≡ all
    → reply ≡ reply_of (codes % 4)
    → take (n + 1) (set room n reply) ++ replies_from (left - (n + 1)) (codes / 4) ≡ all
one_is_unpacked room n left codes all reply inside more unpacked told =
    let next : left - n ≡ suc (left - (n + 1)) = grind arith in
    let here : take n room ++ (reply_of (codes % 4) ∷ replies_from (left - (n + 1)) (codes / 4)) ≡ all = rw (at_suc (left - (n + 1)) codes) at (rw next at unpacked) in
    rw (take_more_set room n reply inside, append_assoc (take n room) (reply ∷ []) (replies_from (left - (n + 1)) (codes / 4)), told) here

-- none is left to unpack
pub all_are_unpacked : (room : List Reply) (n left codes : ℕ) (all : List Reply) → n ≤ left → left ≤ n
    → take n room ++ replies_from (left - n) codes ≡ all → take left room ≡ all
all_are_unpacked room n left codes all few none unpacked =
    let same : left ≡ n = grind arith in
    let gone : left - n ≡ 0 = grind arith in
    let here : take n room ++ [] ≡ all = rw (at_zero codes) at (rw gone at unpacked) in
    rw (same) (sym (append-nil (take n room)) ∙ here)
