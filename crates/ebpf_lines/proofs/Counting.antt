-- One slot more of those that are looked at.
use Rattle.std.proofs.Common.{◌≡◌, ℕ, ◌+◌, List, Option, None, refl, ap, ◌∙◌, cond, add-one}
use Rattle.ebpf_object_file.specs.declared.lines.Line.{Line}
use Rattle.ebpf_lines.specs.LineCounts.{held, is_at, greater, most_below}
use Rattle.ebpf_lines.specs.Nearest.{nearer, nearest_below}

pub no_nearest : (holding : List (Option Line)) (file above : ℕ) → None ≡ nearest_below holding file above 0
unfolding nearest_below
no_nearest holding file above = refl

pub nearest_more : (holding : List (Option Line)) (file above n : ℕ) (nearest here now : Option Line) → nearest ≡ nearest_below holding file above n
    → here ≡ held holding n → now ≡ nearer file above nearest here → now ≡ nearest_below holding file above (n + 1)
unfolding nearest_below
nearest_more holding file above n nearest here now was is new =
    rw (add-one) (new ∙ ap (λ (x : Option Line). nearer file above x here) was ∙ ap (nearer file above (nearest_below holding file above n)) is)

pub no_most : (executed : ℕ → ℕ) (holding : List (Option Line)) (file number : ℕ) → 0 ≡ most_below executed holding file number 0
unfolding most_below
no_most executed holding file number = refl

pub most_more : (executed : ℕ → ℕ) (holding : List (Option Line)) (file number n most count now : ℕ) → most ≡ most_below executed holding file number n
    → count ≡ cond (is_at file number (held holding n)) (executed n) 0 → now ≡ greater most count → now ≡ most_below executed holding file number (n + 1)
unfolding most_below
most_more executed holding file number n most count now was is new =
    rw (add-one) (new ∙ ap (λ (x : ℕ). greater x count) was ∙ ap (greater (most_below executed holding file number n)) is)
