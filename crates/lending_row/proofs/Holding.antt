-- What a seat has after a plain exchange of its slot.
use Rattle.std.proofs.Common.{◌≡◌, ℕ, [], ◌∷◌, sym, ap, ◌∙◌}
use Rattle.std.specs.Prelude.{Option}
use Rattle.atomic_table.specs.Table.{Me, rest}
use Rattle.shared_row.proofs.Lists.{head-first}
use Rattle.lending_row.specs.declared.lending.Entry.{Entry}
use Rattle.lending_row.specs.Lending.{taker}

module _ {T K : Type 0} where
  -- the seat has a slot to read and write
  pub has-first : (m : Me (Option T) (Entry K)) (i : ℕ) (o : Option T) → m.1 ≡ (i, o) ∷ [] → (p : Option T) × (m.1 ≡ (i, p) ∷ rest m.1)
  has-first m i o has = (o, head-first m.1 [] (i, o) has)

  module _ (m n : Me (Option T) (Entry K)) (i : ℕ) (o p : Option T) (has : m.1 ≡ (i, o) ∷ []) (e : n ≡ (m.0, (i, p) ∷ rest m.1)) where
    pub now-has : n.1 ≡ (i, p) ∷ []
    now-has = ap (λ r. r.1) e ∙ ap (λ r. (i, p) ∷ rest r) has

    pub still-taker : m.0 ≡ taker m.0.key i → n.0 ≡ taker n.0.key i
    still-taker is = ap (λ r. r.0) e ∙ (is ∙ ap (λ r. taker r.0.key i) (sym e))
