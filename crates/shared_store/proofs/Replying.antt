-- What a call for one kind, by its stock, is of the tools.
use Rattle.std.proofs.Common.{◌≡◌, ◌≢◌, inl, inr, ℕ, ◌+◌, ◌==◌, if◌then◌else◌, List, [], Option, Some, None, refl, sym, ap, ◌∙◌, subst, arith}
use Rattle.std.proofs.lemmas.Bool.Decides.{nat_tests}
use Rattle.std.specs.Option.{IfSome, IsSomeAnd, MatchOption}
use Rattle.owners_table.specs.Owning.{Holds, OwnersView}
use Rattle.shared_cache.specs.HandView.{IsLaden}
use Rattle.std.specs.Prelude.{option_map}
use Rattle.ebpf_object.specs.Object.{kind_of, slot_of}
use Rattle.ebpf_object.specs.declared.object.Object.{Object}
use Rattle.ebpf_owned.specs.Exchanges.{HasPassed, one_if}
use Rattle.shared_row.specs.Views.{PassView}
use Rattle.shared_store.specs.Stock.{Answers, CountsOn, IsOf, Stays, StockView, SupplyView, fetched_by, granted_by, refused_by}
use Rattle.shared_store.specs.Tools.{HaveAnswered, Replies, ToolsView, held_at, puts_at, stock_at}

-- ---- sums over the kinds, one of which goes on

first_on : (a a' b c n : ℕ) → a' ≡ a + n → a' + b + c ≡ a + b + c + n
first_on a a' b c n on = omega (arith, on)

second_on : (a b b' c n : ℕ) → b' ≡ b + n → a + b' + c ≡ a + b + c + n
second_on a b b' c n on = omega (arith, on)

third_on : (a b c c' n : ℕ) → c' ≡ c + n → a + b + c' ≡ a + b + c + n
third_on a b c c' n on = omega (arith, on)

first_counts_on : (a a' b c n : ℕ) → CountsOn a a' n → CountsOn (a + b + c) (a' + b + c) n
first_counts_on a a' b c n on = (omega (arith, on.0), elim on.1 [ inl is ↦ inl (omega (arith, is)) | inr end ↦ inr (omega (arith, end)) ])

second_counts_on : (a b b' c n : ℕ) → CountsOn b b' n → CountsOn (a + b + c) (a + b' + c) n
second_counts_on a b b' c n on = (omega (arith, on.0), elim on.1 [ inl is ↦ inl (omega (arith, is)) | inr end ↦ inr (omega (arith, end)) ])

third_counts_on : (a b c c' n : ℕ) → CountsOn c c' n → CountsOn (a + b + c) (a + b + c') n
third_counts_on a b c c' n on = (omega (arith, on.0), elim on.1 [ inl is ↦ inl (omega (arith, is)) | inr end ↦ inr (omega (arith, end)) ])

still_of : (supply : SupplyView) (owners : OwnersView) (s t : StockView) → Stays s t → IsOf supply owners s → IsOf supply owners t
still_of supply owners s t stays of = record { hand = stays.hand ∙ of.hand; shelf_hand = stays.shelf_hand ∙ of.shelf_hand; seat = stays.seat ∙ of.seat }

-- ---- the tools after a call of one kind's stock

abbrev pub with_cells : ToolsView → PassView → StockView → ToolsView
with_cells t pages s = record { pages = pages; cells = s; records = t.records; blocks = t.blocks }

abbrev pub with_records : ToolsView → PassView → StockView → ToolsView
with_records t pages s = record { pages = pages; cells = t.cells; records = s; blocks = t.blocks }

abbrev pub with_blocks : ToolsView → PassView → StockView → ToolsView
with_blocks t pages s = record { pages = pages; cells = t.cells; records = t.records; blocks = s }

module _ {X : Type 0} (other : ℕ) (x y u v : X) where
  first_apart : other ≢ 0 → (if other == 0 then x else u) ≡ (if other == 0 then y else u)
  first_apart apart = grind (arith, nat_tests, apart)

  second_apart : other ≢ 1 → (if other == 0 then u else if other == 1 then x else v) ≡ (if other == 0 then u else if other == 1 then y else v)
  second_apart apart = grind (arith, nat_tests, apart)

  third_apart : (w : X) → other ≢ 2
      → (if other == 0 then u else if other == 1 then v else if other == 2 then x else w) ≡ (if other == 0 then u else if other == 1 then v else if other == 2 then y else w)
  third_apart w apart = grind (arith, nat_tests, apart)

module _ (old : ToolsView) (pages : PassView) (s : StockView) (a b d : ℕ) (same : pages.table ≡ old.pages.table) where
  pub cells_answered : Answers old.cells s a b d → HaveAnswered old (with_cells old pages s) a b d
  cells_answered is = record {
    of = λ c are. record { pages = same ∙ are.pages; cells = still_of c.cells c.base.owners old.cells s is.stays are.cells; records = are.records; blocks = are.blocks };
    granted_are = first_on (granted_by old.cells) (granted_by s) (granted_by old.records) (granted_by old.blocks) a is.granted_are;
    refused_are = first_counts_on (refused_by old.cells) (refused_by s) (refused_by old.records) (refused_by old.blocks) b is.refused_are;
    fetched_are = first_on (fetched_by old.cells) (fetched_by s) (fetched_by old.records) (fetched_by old.blocks) d is.fetched_are;
  }

  pub records_answered : Answers old.records s a b d → HaveAnswered old (with_records old pages s) a b d
  records_answered is = record {
    of = λ c are. record { pages = same ∙ are.pages; cells = are.cells; records = still_of c.records c.base.owners old.records s is.stays are.records; blocks = are.blocks };
    granted_are = second_on (granted_by old.cells) (granted_by old.records) (granted_by s) (granted_by old.blocks) a is.granted_are;
    refused_are = second_counts_on (refused_by old.cells) (refused_by old.records) (refused_by s) (refused_by old.blocks) b is.refused_are;
    fetched_are = second_on (fetched_by old.cells) (fetched_by old.records) (fetched_by s) (fetched_by old.blocks) d is.fetched_are;
  }

  pub blocks_answered : Answers old.blocks s a b d → HaveAnswered old (with_blocks old pages s) a b d
  blocks_answered is = record {
    of = λ c are. record { pages = same ∙ are.pages; cells = are.cells; records = are.records; blocks = still_of c.blocks c.base.owners old.blocks s is.stays are.blocks };
    granted_are = third_on (granted_by old.cells) (granted_by old.records) (granted_by old.blocks) (granted_by s) a is.granted_are;
    refused_are = third_counts_on (refused_by old.cells) (refused_by old.records) (refused_by old.blocks) (refused_by s) b is.refused_are;
    fetched_are = third_on (fetched_by old.cells) (fetched_by old.records) (fetched_by old.blocks) (fetched_by s) d is.fetched_are;
  }

  -- by a call for a kind of this number
  module _ (kind : ℕ) where
    pub cells_reply : 0 ≡ kind → Answers old.cells s a b d → Replies kind a b d old (with_cells old pages s)
    cells_reply of is = record {
      answered = cells_answered is;
      others = λ other apart. first_apart other s.seat.held old.cells.seat.held (if other == 1 then old.records.seat.held else if other == 2 then old.blocks.seat.held else []) [] (λ e. apart (e ∙ of));
    }

    pub records_reply : 1 ≡ kind → Answers old.records s a b d → Replies kind a b d old (with_records old pages s)
    records_reply of is = record {
      answered = records_answered is;
      others = λ other apart. second_apart other s.seat.held old.records.seat.held old.cells.seat.held (if other == 2 then old.blocks.seat.held else []) (λ e. apart (e ∙ of));
    }

    pub blocks_reply : 2 ≡ kind → Answers old.blocks s a b d → Replies kind a b d old (with_blocks old pages s)
    blocks_reply of is = record {
      answered = blocks_answered is;
      others = λ other apart. third_apart other s.seat.held old.blocks.seat.held old.cells.seat.held old.records.seat.held [] (λ e. apart (e ∙ of));
    }

-- ---- an answer that is an object of any kind, made of one of its kind

module _ {X Y : Type 0} (R : X → Y → Type 0) where
  pub same_ones : (from : Option X) (to : Option Y) → MatchOption from (to ≡ None) (λ x. IsSomeAnd to (R x)) → one_if from ≡ one_if to
  same_ones None None cases = refl
  same_ones None (Some y) cases = ap one_if (sym cases)
  same_ones (Some x) None cases = absurd cases
  same_ones (Some x) (Some y) cases = refl

-- ---- tools that are seen as others

pub as_seen : (o s t : ToolsView) (kind a b d : ℕ) → s ≡ o → Replies kind a b d s t → Replies kind a b d o t
as_seen o s t kind a b d is on = subst (λ (v : ToolsView). Replies kind a b d v t) is on

-- ---- an exchange of objects of one kind, as one of objects

module _ {X : Type 0} (slot : X → ℕ) (of : X → Object) (same : (x : X) → slot_of (of x) ≡ slot x) where
  given_slots : (given : Option X) → option_map slot_of (option_map of given) ≡ option_map slot given
  given_slots None = refl
  given_slots (Some x) = ap (λ k. Some k) (same x)

  got_slots : (got : Option X) (result : Option Object) → MatchOption got (result ≡ None) (λ x. IsSomeAnd result (λ o. o ≡ of x)) → option_map slot_of result ≡ option_map slot got
  got_slots None None cases = refl
  got_slots None (Some y) cases = ap (option_map slot_of) cases
  got_slots (Some x) None cases = absurd cases
  got_slots (Some x) (Some y) cases = ap (λ k. Some k) (ap slot_of cases ∙ same x)

  -- it is an exchange of this shelf's kind
  pub exchanged_of : (given : Option X) (object : Option Object) (got : Option X) (result : Option Object) (word : ℕ) (h h' k k' : List (ℕ × ℕ))
      → option_map of given ≡ object → MatchOption got (result ≡ None) (λ x. IsSomeAnd result (λ o. o ≡ of x)) → h ≡ k → h' ≡ k'
      → HasPassed (option_map slot given) (option_map slot got) word h h' → HasPassed (option_map slot_of object) (option_map slot_of result) word k k'
  exchanged_of given object got result word h h' k k' offered cases before after passed =
      subst (λ l. HasPassed (option_map slot_of object) (option_map slot_of result) word k l) after
      (subst (λ l. HasPassed (option_map slot_of object) (option_map slot_of result) word l h') before
      (subst (λ o. HasPassed o (option_map slot_of result) word h h') (sym (given_slots given) ∙ ap (option_map slot_of) offered)
      (subst (λ o. HasPassed (option_map slot given) o word h h') (sym (got_slots got result cases)) passed)))

pub same_given : {X : Type 0} (of : X → Object) (given : Option X) → one_if (option_map of given) ≡ one_if given
same_given of None = refl
same_given of (Some x) = refl

-- what is given is held, as an object of one kind
pub offered_of : {X : Type 0} (slot : X → ℕ) (of : X → Object) (same : (x : X) → slot_of (of x) ≡ slot x) (given : Option X) (object : Option Object) (shelf : ℕ)
    (s o : ToolsView) (kind : ℕ) → option_map of given ≡ object → kind ≡ shelf → s ≡ o
    → IfSome object (λ g. Holds (slot_of g) (held_at o shelf) × (kind_of g ≡ shelf)) → IfSome given (λ x. Holds (slot x) (held_at s kind))
offered_of slot of same None object shelf s o kind offered is seen has = tt
offered_of slot of same (Some x) object shelf s o kind offered is seen has =
    let all = subst (λ b. IfSome b (λ g. Holds (slot_of g) (held_at o shelf) × (kind_of g ≡ shelf))) (sym offered) has in
    subst (λ (v : ToolsView). Holds (slot x) (held_at v kind)) (sym seen)
    (subst (λ (k : ℕ). Holds (slot x) (held_at o k)) (sym is) (subst (λ (k : ℕ). Holds k (held_at o shelf)) (same x) all.0))

-- it is put there
pub put_of : {X : Type 0} (of : X → Object) (given : Option X) (object : Option Object) (shelf kind : ℕ) (s o t : ToolsView) → option_map of given ≡ object → kind ≡ shelf → s ≡ o
    → ((IsLaden (stock_at s kind).hand → ⊥) → puts_at t kind ≡ puts_at s kind + one_if given)
    → (IsLaden (stock_at o shelf).hand → ⊥) → puts_at t shelf ≡ puts_at o shelf + one_if object
put_of of given object shelf kind s o t offered is seen put =
    subst (λ (k : ℕ). (IsLaden (stock_at o k).hand → ⊥) → puts_at t k ≡ puts_at o k + one_if object) is
    (subst (λ (v : ToolsView). (IsLaden (stock_at v kind).hand → ⊥) → puts_at t kind ≡ puts_at v kind + one_if object) seen
    (subst (λ (n : ℕ). (IsLaden (stock_at s kind).hand → ⊥) → puts_at t kind ≡ puts_at s kind + n) (sym (same_given of given) ∙ ap one_if offered) put))
