-- The line of the next job.
use Rattle.std.proofs.Common.{◌≡◌, ℕ, ◌+◌, ◌-◌, ◌/◌, ◌%◌, ◌^◌, ◌<◌, List, [], ◌∷◌, ◌++◌, length, drop, get_or, codes, decimal, sym, ap, ◌∙◌, subst}
use Rattle.std.proofs.Common.{arith, inl, inr, eq-zero-or-pos, append_assoc, length-append}
use Rattle.std.specs.Prelude.{slice_set}
use Rattle.std.proofs.lemmas.Fmt.{decimal_digit, decimal_step}
use Rattle.std.proofs.lemmas.List.{set_at, get_or-drop, drop-set-add}
use Rattle.std.proofs.lemmas.Str.Ascii.{IsAscii-set}
use Rattle.std.specs.Str.{IsAscii}
use Rattle.std.proofs.Math.Seq.{get_or-append_seam}

-- what comes before the last digit, which is all that changes
record Counts (j : ℕ) : Type 0 where
  pub start : List ℕ
  pub now : decimal j ≡ start ++ (48 + j % 10) ∷ []
  pub next : j % 10 < 9 → decimal (j + 1) ≡ start ++ (48 + j % 10 + 1) ∷ []

counts : (j : ℕ) → j + 1 < 2 ^ 64 → Counts j
counts j fits = elim (eq-zero-or-pos (10 - j)) [
  | inl none ↦
      record {
        start = decimal (j / 10);
        now = decimal_step j (omega arith) (omega arith);
        next = λ below.
            let tens : (j + 1) / 10 ≡ j / 10 = omega arith in
            let ones : 48 + (j + 1) % 10 ≡ 48 + j % 10 + 1 = omega arith in
            decimal_step (j + 1) (omega arith) fits ∙ (ap (λ (n : ℕ). decimal n ++ (48 + (j + 1) % 10) ∷ []) tens ∙ ap (λ (d : ℕ). decimal (j / 10) ++ d ∷ []) ones);
      }
  | inr some ↦
      let same : 48 + j ≡ 48 + j % 10 = omega arith in
      record {
        start = [];
        now = decimal_digit j (omega arith) ∙ ap (λ (d : ℕ). d ∷ []) same;
        next = λ below.
            let more : 48 + (j + 1) ≡ 48 + j % 10 + 1 = omega arith in
            decimal_digit (j + 1) (omega arith) ∙ ap (λ (d : ℕ). d ∷ []) more;
      }
]

-- a digit after these bytes and before those
record HasDigit (line start rest : List ℕ) (c at : ℕ) : Type 0 where
  pub there : get_or line at 0 ≡ c
  pub counted : slice_set line at (c + 1) ≡ start ++ (c + 1) ∷ rest

has_digit : (line start rest : List ℕ) (c after : ℕ) → line ≡ start ++ c ∷ rest → after ≡ length rest → HasDigit line start rest c (length line - after - 1)
has_digit line start rest c after is long =
    let at : length line - after - 1 ≡ length start = omega (arith, long, ap length is, length-append start (c ∷ rest)) in
    record {
      there = ap (λ (xs : List ℕ). get_or xs (length line - after - 1) 0) is
          ∙ (ap (λ (k : ℕ). get_or (start ++ c ∷ rest) k 0) at ∙ get_or-append_seam start c rest 0);
      counted = ap (λ (xs : List ℕ). slice_set xs (length line - after - 1) (c + 1)) is ∙ set_at start c rest (c + 1) (length line - after - 1) (sym at);
    }

seam : (a b e : List ℕ) (c : ℕ) → a ++ ((b ++ c ∷ []) ++ e) ≡ (a ++ b) ++ c ∷ e
seam a b e c = ap (λ (xs : List ℕ). a ++ xs) (append_assoc b (c ∷ []) e) ∙ sym (append_assoc a b (c ∷ e))

-- a job's line is that of the next job once its last digit is counted on
pub counted : (j after : ℕ) (line e : List ℕ) → j + 1 < 2 ^ 64 → line ≡ codes "job " ++ (decimal j ++ e) → after ≡ length e
    → get_or line (length line - after - 1) 0 < 57
    → slice_set line (length line - after - 1) (get_or line (length line - after - 1) 0 + 1) ≡ codes "job " ++ (decimal (j + 1) ++ e)
counted j after line e fits is long below =
    let n = counts j fits in
    let c = 48 + j % 10 in
    let start = codes "job " ++ n.start in
    let parts : line ≡ start ++ c ∷ e = is ∙ (ap (λ (ds : List ℕ). codes "job " ++ (ds ++ e)) n.now ∙ seam (codes "job ") n.start e c) in
    let d = has_digit line start e c after parts long in
    let small : j % 10 < 9 = omega (arith, below, d.there) in
    let next : codes "job " ++ (decimal (j + 1) ++ e) ≡ start ++ (c + 1) ∷ e =
    ap (λ (ds : List ℕ). codes "job " ++ (ds ++ e)) (n.next small) ∙ seam (codes "job ") n.start e (c + 1) in
    ap (λ (x : ℕ). slice_set line (length line - after - 1) (x + 1)) d.there ∙ (d.counted ∙ sym next)

-- the bytes that are written are those from a start on
pub counts_there : (bytes now : List ℕ) (start len after : ℕ) → drop start bytes ≡ now → len ≡ length now → get_or bytes (start + (len - after - 1)) 0 < 57
    → (get_or now (length now - after - 1) 0 < 57)
    × (drop start (slice_set bytes (start + (len - after - 1)) (get_or bytes (start + (len - after - 1)) 0 + 1))
    ≡ slice_set now (length now - after - 1) (get_or now (length now - after - 1) 0 + 1))
counts_there bytes now start len after is long below =
    let k = len - after - 1 in
    let there : get_or (drop start bytes) k 0 ≡ get_or bytes (start + k) 0 = get_or-drop start bytes k 0 in
    let Counted : List ℕ → ℕ → Type 0 = λ xs at. (get_or xs at 0 < 57)
    × (drop start (slice_set bytes (start + k) (get_or bytes (start + k) 0 + 1)) ≡ slice_set xs at (get_or xs at 0 + 1)) in
    let here : Counted (drop start bytes) k =
    (subst (λ (d : ℕ). d < 57) (sym there) below, drop-set-add start bytes k (get_or bytes (start + k) 0 + 1) ∙ ap (λ (d : ℕ). slice_set (drop start bytes) k (d + 1)) (sym there)) in
    subst (λ (n : ℕ). Counted now (n - after - 1)) long (subst (λ (xs : List ℕ). Counted xs k) is here)

pub still_ascii : (bytes : List ℕ) (start k digit : ℕ) → IsAscii (drop start bytes) → digit < 57 → IsAscii (drop start (slice_set bytes (start + k) (digit + 1)))
still_ascii bytes start k digit ascii below =
    subst IsAscii (sym (drop-set-add start bytes k (digit + 1))) (IsAscii-set (drop start bytes) k (digit + 1) ascii (omega (arith, below)))
