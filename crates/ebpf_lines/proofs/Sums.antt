-- Sums over numbers, one after another.
use Rattle.std.proofs.Common.{◌≡◌, ℕ, zero, suc, ◌+◌, ◌-◌, ◌<◌, ◌≤◌, refl, sym, ap, ◌∙◌, arith, add-one}
use Rattle.ebpf_lines.specs.declared.tracefile.Totals.{Totals}
use Rattle.ebpf_lines.specs.Traced.{WithWays}
use Rattle.ebpf_lines.specs.Tracefile.{sum_below}

sum_suc : (f : ℕ → ℕ) (n : ℕ) → sum_below (suc n) f ≡ sum_below n f + f n
unfolding sum_below
sum_suc f n = refl

pub sum_zero : (f : ℕ → ℕ) → sum_below 0 f ≡ 0
unfolding sum_below
sum_zero f = refl

pub sum_more : (f : ℕ → ℕ) (n : ℕ) → sum_below (n + 1) f ≡ sum_below n f + f n
sum_more f n = ap (λ (k : ℕ). sum_below k f) (add-one n) ∙ sum_suc f n

-- numbers that add nothing
sum_passed : (f : ℕ → ℕ) (from more : ℕ) → ((k : ℕ) → from ≤ k → k < from + more → f k ≡ 0) → sum_below (from + more) f ≡ sum_below from f
sum_passed f from zero none = let same : from + 0 ≡ from = omega arith in ap (λ (n : ℕ). sum_below n f) same
sum_passed f from (suc more) none =
    let next : from + suc more ≡ suc (from + more) = omega arith in
    let here : f (from + more) ≡ 0 = none (from + more) (omega arith) (omega arith) in
    let rest : sum_below (from + more) f ≡ sum_below from f = sum_passed f from more (λ k low high. none k low (omega (arith, high))) in
    ap (λ (n : ℕ). sum_below n f) next ∙ sum_suc f (from + more) ∙ omega (arith, here, rest)

pub sum_passed_to : (f : ℕ → ℕ) (from to : ℕ) → from ≤ to → ((k : ℕ) → from ≤ k → k < to → f k ≡ 0) → sum_below to f ≡ sum_below from f
sum_passed_to f from to le none =
    let same : from + (to - from) ≡ to = omega (arith, le) in
    ap (λ (n : ℕ). sum_below n f) (sym same) ∙ sum_passed f from (to - from) (λ k low high. none k low (omega (arith, high, le)))

-- ---- ways of branches, slot by slot

pub no_ways : (f g : ℕ → ℕ) (t : Totals) → WithWays (sum_below 0 f) (sum_below 0 g) t t
no_ways f g t = record {
  lines_same = refl;
  hit_same = refl;
  ways_are = let none = sum_zero f in omega (arith, none);
  ways_hit_are = let none = sum_zero g in omega (arith, none);
}

pub more_ways : (f g : ℕ → ℕ) (n : ℕ) (old mid new : Totals) → WithWays (sum_below n f) (sum_below n g) old mid → WithWays (f n) (g n) mid new
    → WithWays (sum_below (n + 1) f) (sum_below (n + 1) g) old new
more_ways f g n old mid new h k = record {
  lines_same = k.lines_same ∙ h.lines_same;
  hit_same = k.hit_same ∙ h.hit_same;
  ways_are = let more = sum_more f n in omega (arith, more, h.ways_are, k.ways_are);
  ways_hit_are = let more = sum_more g n in omega (arith, more, h.ways_hit_are, k.ways_hit_are);
}
