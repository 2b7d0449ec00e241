-- The stocks of all kinds, where one of them has changed: what is said of any object, of any kind.
use Rattle.std.proofs.Common.{◌≡◌, ◌≢◌, ◌⊎◌, inl, inr, ℕ, ◌+◌, ◌<◌, ◌==◌, if◌then◌else◌, Bool, true, false, Option, Some, None, refl, sym, ap, ◌∙◌}
use Rattle.std.proofs.Common.{subst, arith}
use Rattle.std.specs.Prelude.{option_map, IfSome, IfNone}
use Rattle.std.proofs.lemmas.Bool.{cases_eq}
use Rattle.std.proofs.lemmas.Bool.Decides.{nat_tests}
use Rattle.slab_layer.specs.Slots.{Pages, IsOut, out_count}
use Rattle.ebpf_machine.specs.Store.{one_of}
use Rattle.ebpf_object.specs.declared.object.Object.{Object}
use Rattle.ebpf_object.specs.Object.{kind_of, slot_of, bytes_of, has_size}
use Rattle.ebpf_host.specs.declared.stocks.Stocks.{Stocks}
use Rattle.ebpf_host.specs.Stock.{StockView, Shelved, IsHeld, Takes, Gives, Exchanges, one_if, held_count, shelved_at}
use Rattle.ebpf_host.proofs.Stocking.{one_at_most}
use Rattle.ebpf_host.specs.Stocks.{OthersStay, Holds, as_shelved, no_stock, number_in, number_of, renumbered, standing_on, stock_of, held_of}

-- ---- numbers

same_kind : (k l s t : ℕ) → k < 3 → l < 3 → number_in k s ≡ number_in l t → k ≡ l
same_kind k l s t few_k few_l same = omega (arith, few_k, few_l, same)

same_slot : (k l s t : ℕ) → k < 3 → l < 3 → number_in k s ≡ number_in l t → s ≡ t
same_slot k l s t few_k few_l same = omega (arith, few_k, few_l, same)

few_kinds : (o : Object) → kind_of o < 3
few_kinds o = (has_size o).1

-- ---- stocks of all kinds

either : (P : StockView → Type 0) {x y : StockView} (first : P x) (second : P y) (b : Bool) → P (if b then x else y)
either P first second true = first
either P first second false = second

-- what is said of each stock is said of that of any number
pub of_each : (P : StockView → Type 0) (s : Stocks) → P s.cells → P s.records → P s.blocks → P no_stock → (kind : ℕ) → P (stock_of s kind)
of_each P s cells records blocks none kind = either P cells (either P records (either P blocks none (kind == 2)) (kind == 1)) (kind == 0)

-- ---- one stock has changed

module _ (old new : Stocks) (kind : ℕ) (stay : OthersStay old new kind) where
  -- an object stays held, where one of this kind does
  pub still : (other : Object) → Holds old other
      → (kind_of other ≡ kind → IsHeld (stock_of old kind) (slot_of other) → IsHeld (stock_of new kind) (slot_of other))
      → Holds new other
  still other held here = by (cases_eq (kind_of other) kind) where
    by : (kind_of other ≡ kind) ⊎ (kind_of other ≢ kind) → Holds new other
    by (inl same) =
        subst (λ (k : ℕ). IsHeld (stock_of new k) (slot_of other)) (sym same) (here same (subst (λ (k : ℕ). IsHeld (stock_of old k) (slot_of other)) same held))
    by (inr apart) = subst (λ (s : StockView). IsHeld s (slot_of other)) (sym (stay (kind_of other) apart)) held

  -- what is on other shelves is there still
  pub shelves_stay : (what : Option Shelved) (other : ℕ) → other ≢ kind → what ≡ standing_on old other → what ≡ standing_on new other
  shelves_stay what other apart stands = stands ∙ ap (λ (s : StockView). option_map (renumbered other) s.shelf) (sym (stay other apart))

  -- and on this one, where the shelf is as it was
  pub all_shelves_stay : (stock_of new kind).shelf ≡ (stock_of old kind).shelf → (other : ℕ) (what : Option Shelved)
      → what ≡ standing_on old other → what ≡ standing_on new other
  all_shelves_stay same other what stands = by (cases_eq other kind) where
    by : (other ≡ kind) ⊎ (other ≢ kind) → what ≡ standing_on new other
    by (inl here) =
        subst (λ (k : ℕ). what ≡ standing_on old k → what ≡ standing_on new k) (sym here) (λ e. e ∙ ap (option_map (renumbered kind)) (sym same)) stands
    by (inr apart) = shelves_stay what other apart stands

  -- how many are held
  counted_by : (given got : ℕ) → held_of new kind + given ≡ held_of old kind + got → (k : ℕ)
      → held_of new k + (if k == kind then given else 0) ≡ held_of old k + (if k == kind then got else 0)
  counted_by given got counts k = by (cases_eq k kind) where
    by : (k ≡ kind) ⊎ (k ≢ kind) → held_of new k + (if k == kind then given else 0) ≡ held_of old k + (if k == kind then got else 0)
    by (inl same) = let new_is = ap (held_of new) same in let old_is = ap (held_of old) same in grind (arith, nat_tests, same, new_is, old_is, counts)
    by (inr apart) = let same = ap held_count (stay k apart) in grind (arith, nat_tests, apart, same)

  -- ---- an object is taken

  module _ (o : Object) (of_kind : kind_of o ≡ kind) (t : Takes (stock_of old kind) (stock_of new kind) (slot_of o)) where
    pub taken_held : Holds new o × (kind_of o ≡ kind)
    taken_held = (subst (λ (k : ℕ). IsHeld (stock_of new k) (slot_of o)) (sym of_kind) t.held, of_kind)

    pub taken_apart : (other : Object) → Holds old other → number_of other ≢ number_of o
    taken_apart other held same =
        let kinds = same_kind (kind_of other) (kind_of o) (slot_of other) (slot_of o) (few_kinds other) (few_kinds o) same in
        let slots = same_slot (kind_of other) (kind_of o) (slot_of other) (slot_of o) (few_kinds other) (few_kinds o) same in
        t.fresh (subst (λ (k : ℕ). IsHeld (stock_of old k) (slot_of o)) (kinds ∙ of_kind) (subst (IsHeld (stock_of old (kind_of other))) slots held))

    pub taken_counted : (k : ℕ) → held_of new k ≡ held_of old k + (if k == kind then 1 else 0)
    taken_counted k = let e = counted_by 0 1 (let counts = t.counted in omega (arith, counts)) k in grind (arith, nat_tests, e)

    pub taken_others : (other : Object) → Holds old other → Holds new other
    taken_others other held = still other held (λ same was. t.others (slot_of other) was)

  -- ---- an object is given back

  module _ (o : Object) (of_kind : kind_of o ≡ kind) (t : Gives (stock_of old kind) (stock_of new kind) (slot_of o)) where
    pub given_before : (other : Object) → Holds new other → Holds old other × (number_of other ≢ number_of o)
    given_before other held = by (cases_eq (kind_of other) kind) where
      by : (kind_of other ≡ kind) ⊎ (kind_of other ≢ kind) → Holds old other × (number_of other ≢ number_of o)
      by (inl same) =
          let was = t.before (slot_of other) (subst (λ (k : ℕ). IsHeld (stock_of new k) (slot_of other)) same held) in (
            subst (λ (k : ℕ). IsHeld (stock_of old k) (slot_of other)) (sym same) was.0,
            λ e.
                was.1 (same_slot (kind_of other) (kind_of o) (slot_of other) (slot_of o) (few_kinds other) (few_kinds o) e),
          )
      by (inr apart) = (
        subst (λ (s : StockView). IsHeld s (slot_of other)) (stay (kind_of other) apart) held,
        λ e.
            apart (same_kind (kind_of other) (kind_of o) (slot_of other) (slot_of o) (few_kinds other) (few_kinds o) e ∙ of_kind),
      )

    pub given_counted : (k : ℕ) → held_of new k + (if k == kind then 1 else 0) ≡ held_of old k
    given_counted k = let e = counted_by 1 0 (let counts = t.counted in omega (arith, counts)) k in grind (arith, nat_tests, e)

    pub given_others : (other : Object) → Holds old other → number_of other ≢ number_of o → Holds new other
    given_others other held apart = still other held
        (λ same was. t.others (slot_of other) was
        (λ slots. apart ((λ i. number_in (same i) (slots i)) ∙ ap (λ (k : ℕ). number_in k (slot_of o)) (sym of_kind))))

  -- ---- an object, or nothing, is exchanged for what is on the shelf

  abbrev AreOfKind : Option Object → Type 0
  AreOfKind o = IfSome o (λ x. kind_of x ≡ kind)

  abbrev AreHeld : Option Object → Type 0
  AreHeld o = IfSome o (λ x. Holds old x × (kind_of x ≡ kind))

  renumbered_is : (o : Option Object) → AreOfKind o
      → option_map (renumbered kind) (option_map as_shelved o) ≡ option_map (λ x. shelved_at (number_of x) (bytes_of x)) o
  renumbered_is None of_kind = refl
  renumbered_is (Some x) of_kind = ap (λ (k : ℕ). Some (shelved_at (number_in k (slot_of x)) (bytes_of x))) (sym of_kind)

  of_held : (o : Option Object) → AreHeld o → AreOfKind o
  of_held None held = tt
  of_held (Some x) held = held.1

  module _ (given : Option Object) where
    abbrev Got : Option Object → Type 0
    Got got = Exchanges (stock_of old kind) (stock_of new kind) (option_map as_shelved given) (option_map as_shelved got)

    -- what is got was there
    pub got_fetched : (got : Option Object) → AreOfKind got → Got got → IfSome got (λ h. standing_on old kind ≡ Some (shelved_at (number_of h) (bytes_of h)))
    got_fetched None of_kind ex = tt
    got_fetched (Some h) of_kind ex = ap (option_map (renumbered kind)) (sym ex.got_is) ∙ renumbered_is (Some h) of_kind

    pub got_missed : (got : Option Object) → Got got → IfNone got (standing_on old kind ≡ None)
    got_missed None ex = ap (option_map (renumbered kind)) (sym ex.got_is)
    got_missed (Some h) ex = tt

    -- it wasn't held, and is
    pub got_apart : (got : Option Object) → AreOfKind got → Got got → IfSome got (λ h. (other : Object) → Holds old other → number_of other ≢ number_of h)
    got_apart None of_kind ex = tt
    got_apart (Some h) of_kind ex = λ other held same.
        let kinds = same_kind (kind_of other) (kind_of h) (slot_of other) (slot_of h) (few_kinds other) (few_kinds h) same in
        let slots = same_slot (kind_of other) (kind_of h) (slot_of other) (slot_of h) (few_kinds other) (few_kinds h) same in
        let was : IsHeld (stock_of old kind) (slot_of h) =
        subst (λ (k : ℕ). IsHeld (stock_of old k) (slot_of h)) (kinds ∙ of_kind) (subst (IsHeld (stock_of old (kind_of other))) slots held) in
        subst (λ (s : Option Shelved). IfSome s (λ o. o.slot ≢ slot_of h)) (sym ex.got_is) was.off refl

    pub got_held : (got : Option Object) → AreOfKind got → AreHeld given → Got got → IfSome got (λ h. Holds new h × (kind_of h ≡ kind))
    got_held None of_kind giving ex = tt
    got_held (Some h) of_kind giving ex = (subst (λ (k : ℕ). IsHeld (stock_of new k) (slot_of h)) (sym of_kind) held, of_kind) where
      off : (o : Option Object) → AreHeld o → IfSome (option_map as_shelved o) (λ s. s.slot ≢ slot_of h)
      off None giving = tt
      off (Some g) giving = λ same.
          let was : IsHeld (stock_of old kind) (slot_of g) = subst (λ (k : ℕ). IsHeld (stock_of old k) (slot_of g)) giving.1 giving.0 in
          subst (λ (s : Option Shelved). IfSome s (λ o. o.slot ≢ slot_of g)) (sym ex.got_is) was.off (sym same)

      held : IsHeld (stock_of new kind) (slot_of h)
      held = record {
        out = subst (λ (p : Pages). IsOut p (slot_of h)) (sym ex.pages) ex.out;
        off = subst (λ (s : Option Shelved). IfSome s (λ o. o.slot ≢ slot_of h)) (sym ex.given_is) (off given giving);
      }

    -- what is given is there, and is no longer held
    pub given_stands : (got : Option Object) → AreHeld given → Got got → option_map (λ g. shelved_at (number_of g) (bytes_of g)) given ≡ standing_on new kind
    given_stands got giving ex = sym (renumbered_is given (of_held given giving)) ∙ ap (option_map (renumbered kind)) (sym ex.given_is)

    pub given_gone : (got : Option Object) → AreHeld given → Got got → IfSome given (λ g. Holds new g → ⊥)
    given_gone got giving ex = by given giving ex.given_is where
      by : (o : Option Object) → AreHeld o → (stock_of new kind).shelf ≡ option_map as_shelved o → IfSome o (λ g. Holds new g → ⊥)
      by None giving stands = tt
      by (Some g) giving stands = λ held.
          let now : IsHeld (stock_of new kind) (slot_of g) = subst (λ (k : ℕ). IsHeld (stock_of new k) (slot_of g)) giving.1 held in
          subst (λ (s : Option Shelved). IfSome s (λ o. o.slot ≢ slot_of g)) stands now.off refl

    -- all else that is held stays so
    pub exchanged_others : (got : Option Object) → AreHeld given → Got got → (other : Object) → Holds old other
        → IfSome given (λ g. number_of other ≢ number_of g) → Holds new other
    exchanged_others got giving ex other held apart = still other held (λ same was. record {
      out = subst (λ (p : Pages). IsOut p (slot_of other)) (sym ex.pages) was.out;
      off = subst (λ (s : Option Shelved). IfSome s (λ o. o.slot ≢ slot_of other)) (sym ex.given_is) (off same given giving apart);
    }) where
      off : kind_of other ≡ kind → (o : Option Object) → AreHeld o → IfSome o (λ g. number_of other ≢ number_of g)
          → IfSome (option_map as_shelved o) (λ s. s.slot ≢ slot_of other)
      off same None giving apart = tt
      off same (Some g) giving apart = λ slots. apart ((λ i. number_in ((same ∙ sym giving.1) i) (sym slots i)))

    -- and as many are held, but for these
    pub exchanged_counted : (got : Option Object) → Got got → (k : ℕ) → held_of new k + one_of given kind k ≡ held_of old k + one_of got kind k
    exchanged_counted got ex k = by (cases_eq k kind) where
      one_is : (o : Option Object) → k ≡ kind → one_of o kind k ≡ one_if (option_map as_shelved o)
      one_is None same = refl
      one_is (Some x) same = grind (arith, nat_tests, same)

      none_is : (o : Option Object) → k ≢ kind → one_of o kind k ≡ 0
      none_is None apart = refl
      none_is (Some x) apart = grind (arith, nat_tests, apart)

      by : (k ≡ kind) ⊎ (k ≢ kind) → held_of new k + one_of given kind k ≡ held_of old k + one_of got kind k
      by (inl same) =
          let new_is = ap (held_of new) same in
          let old_is = ap (held_of old) same in
          let pages = ap out_count ex.pages in
          let one_now = ap (λ (s : Option Shelved). one_if s) ex.given_is in
          let one_was = ap (λ (s : Option Shelved). one_if s) ex.got_is in
          let few_now = one_at_most (option_map as_shelved given) in
          let few_was = one_at_most (option_map as_shelved got) in
          let gave = one_is given same in
          let had = one_is got same in
          omega (arith, new_is, old_is, pages, one_now, one_was, few_now, few_was, gave, had)
      by (inr apart) =
          let stays = ap held_count (stay k apart) in let gave = none_is given apart in let had = none_is got apart in omega (arith, stays, gave, had)
