-- What the rule of the owners says of each slot.
use Rattle.std.proofs.Common.{◌≡◌, ℕ, ◌<◌, ◌≤◌, Bool, true, false, List, [], ◌∷◌, length, get_or, sym, refl, ap, ◌∙◌, arith}
use Rattle.std.specs.Prelude.{if◌then◌else◌, nat_lt, sum_by, flat_map}
use Rattle.std.proofs.lemmas.Bool.Decides.{nat_tests}
use Rattle.std.proofs.lemmas.List.Sums.{sum_by-cons}
use mathlib.Core.Logic.{dite}
use native.Mathlib.Decide.{dec_le}
use Rattle.owners_table.specs.declared.owning.OwnerSheet.{OwnerSheet}
use Rattle.owners_table.specs.Owning.{EachHasOneOwner, all_held, entries_of, weigh, by_place, weigh_words}
use Rattle.owners_table.specs.Place.{place}
use Rattle.owners_table.proofs.PlaceLemmas.{slot-inside}
use Rattle.owners_table.proofs.Lists.{only, once, differs, differs-same, words-of_run, words-of_none, words-slot, weigh-flat_map, entries-none, entries-one}
use Rattle.owners_table.proofs.OwningSteps.{View, listed}

abbrev only_word : Bool → ℕ → ℕ → List (ℕ × ℕ)
only_word free slot w = if free then [] else (slot, w) ∷ []

is_below : (w : ℕ) → w < 4096 → nat_lt w 4096 ≡ true
is_below w l = grind (arith, nat_tests)

is_run : (w : ℕ) → 4096 ≤ w → nat_lt w 4096 ≡ false
is_run w l = grind (arith, nat_tests)

-- lists that weigh what the words weigh have one entry of a slot that a run owns, and none of another
pub entries-words : (es : List (ℕ × ℕ)) (ws : List ℕ) → ((h : ℕ → ℕ → ℕ) → weigh h es ≡ weigh_words (by_place h) 0 ws) → (slot : ℕ)
    → place slot < length ws → entries_of slot es ≡ only_word (nat_lt (get_or ws (place slot) 0) 4096) slot (get_or ws (place slot) 0)
entries-words es ws same slot within =
    let p : ℕ = place slot in
    let w : ℕ = get_or ws p 0 in
    dite (dec_le 4096 w)
    (λ run.
    let a = same (only slot once) ∙ (words-slot slot once ws ∙ words-of_run p once ws within run) in
    let c = same (only slot (differs w)) ∙ (words-slot slot (differs w) ws ∙ words-of_run p (differs w) ws within run) in
    entries-one slot w es a (c ∙ differs-same w) ∙ ap (λ (free : Bool). only_word free slot w) (sym (is_run w run)))
    (λ free.
    let low : w < 4096 = omega (arith, free) in
    let a = same (only slot once) ∙ (words-slot slot once ws ∙ words-of_none p once ws within low) in
    entries-none slot es a ∙ ap (λ (free : Bool). only_word free slot w) (sym (is_below w low)))

-- the lists of all sheets weigh what each weighs
weigh-all_held : (h : ℕ → ℕ → ℕ) (views : List View) → weigh h (all_held views) ≡ sum_by (sum_by (listed h)) views
weigh-all_held h [] = refl
weigh-all_held h (v ∷ vs) =
    let a = weigh-flat_map h (λ (v : View). flat_map (λ t. t.held) v) (v ∷ vs) in
    let b = weigh-flat_map h (λ (v : View). flat_map (λ t. t.held) v) vs in
    let c = weigh-flat_map h (λ (t : OwnerSheet). t.held) v in
    let d = sum_by-cons (λ (v : View). weigh h (flat_map (λ t. t.held) v)) v vs in
    let e = sum_by-cons (sum_by (listed h)) v vs in
    omega (arith, weigh-all_held h vs)

pub one_owner : EachHasOneOwner
one_owner slots seats st r slot inside =
    let wide = r.wide in entries-words (all_held st.views) st.words (λ h. weigh-all_held h st.views ∙ r.listed h) slot (let there = slot-inside slots slot inside in omega (arith, wide, there))
