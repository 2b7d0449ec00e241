-- What a closed shelf has.
use Rattle.std.proofs.Common.{◌≡◌, ℕ, ◌+◌, List, [], length, get_or, sym, ap, ◌∙◌, arith}
use Rattle.std.specs.Prelude.{sum_by, Option, None}
use mathlib.Core.Option.{some}
use lib.ListN.{get_elem?}
use Rattle.atomic_table.specs.Table.{State}
use Rattle.shared_row.proofs.Parts.{counts-all}
use Rattle.exchange_shelf.specs.declared.passing.Sheet.{Sheet}
use Rattle.exchange_shelf.specs.Passing.{IsShelf, AreBare, times, one_if}
use Rattle.exchange_shelf.proofs.Slots.{times-none, below}

module _ {T : Type 0} (slots hands : ℕ) (st : State (Option T) Sheet) (r : IsShelf slots hands st) (id : ℕ) (v : Sheet)
    (at : get_elem? st.views id ≡ some v) (whole : v.parts ≡ hands) (none_held : v.held ≡ []) where
  abbrev alone : Type 0
  alone = sum_by (λ v. v.parts) st.views ≡ v.parts

  only : alone
  only = r.parts ∙ sym whole

  nobody : (k : ℕ) → sum_by (λ v. times k v.held) st.views ≡ 0
  nobody k =
      counts-all (λ (u : Sheet). u.parts) (λ (u : Sheet). times k u.held) st.views id v
      (λ i u there none. times-none k u.held (r.idle i u there none).2) at only
      ∙ times-none k v.held none_held

  pub ends : (words : List ℕ) (xs : List (Option T)) → st.words ≡ words → length st.homes ≡ length xs
      → ((k : ℕ) (y : Option T) → get_elem? st.homes k ≡ some (some y) → get_elem? xs k ≡ some y)
      → AreBare words xs × ((y : Option T) → get_elem? xs (get_or words 16 0) ≡ some y → v.puts ≡ v.gets + one_if y)
  ends words xs is long same =
      let word = ap (λ (ws : List ℕ). get_or ws 16 0) is in
      let wide = r.wide in
      let count = ap (λ (ws : List ℕ). length ws) is in
      let in_homes = below st.homes (get_or st.words 16 0) (some r.there.0) r.there.1 in
      let there : get_elem? xs (get_or words 16 0) ≡ some r.there.0 = ap (λ (k : ℕ). get_elem? xs k) (sym word)
      ∙ same (get_or st.words 16 0) r.there.0 r.there.1 in
      let a = counts-all (λ (u : Sheet). u.parts) (λ (u : Sheet). u.puts) st.views id v (λ i u at none. (r.idle i u at none).0) at only in
      let b = counts-all (λ (u : Sheet). u.parts) (λ (u : Sheet). u.gets) st.views id v (λ i u at none. (r.idle i u at none).1) at only in
      let e = r.there.2 in (
        record {
          word = omega arith;
          inside = omega arith;
          others = λ k short other. same k None (r.bare k (omega arith) (nobody k) (λ f. other (sym word ∙ f)));
        },
        λ y here. let f = ap one_if (mathlib.Core.Option.some-injective r.there.0 y (sym there ∙ here)) in omega arith,
      )
