-- Stocks and tools that are taken apart, one after another.
use Rattle.std.proofs.Common.{◌≡◌, ℕ, ◌+◌, ◌≤◌, ◌^◌, List, [], ◌∷◌, ◌++◌, All, length, map, refl, sym, ap, ◌∙◌, subst, arith}
use Rattle.std.specs.List.{sum_by}
use Rattle.std.proofs.lemmas.List.{length-append, length-map}
use Rattle.std.proofs.lemmas.List.Elements.{All-push, All-nil}
use Rattle.std.proofs.lemmas.List.Sums.{sum_by-cons, sum_by_push}
use Rattle.owners_table.specs.Owning.{OwnersView}
use Rattle.shared_store.specs.Making.{IsUnused}
use Rattle.shared_store.specs.Parting.{AreAll}
use Rattle.shared_store.specs.Stock.{IsStock, StockView, SupplyView}
use Rattle.shared_store.specs.Tools.{ToolsView}

-- ---- one stock

-- one that holds nothing gave back and put what it took and got, which is few enough
pub record IsEven (s : StockView) : Type 0 where
  pub even : s.hand.counts.frees + s.shelf_hand.puts ≡ s.hand.counts.allocs + s.shelf_hand.gets
  pub few : (s.shelf_hand.puts ≤ 2 ^ 57) × (s.shelf_hand.gets ≤ 2 ^ 56)
  pub gone : (s.clashes ≤ 2 ^ 56) × (s.strays ≤ 2 ^ 56)

pub stock_even : (s : StockView) → IsStock s → s.seat.held ≡ [] → IsEven s
stock_even s i none =
    let held = ap length none in
    record {
      even = omega (arith, i.lent, held, i.even, i.shelved.0, i.shelved.1);
      few = (omega (arith, i.even, i.shelved.0, i.few.0, i.few.1), omega (arith, i.shelved.1, i.few.1));
      gone = (omega (arith, i.clashed.1, i.few.0), omega (arith, i.strayed, i.few.1));
    }

-- ---- sums

-- the last of a list
pub sum_last : {X : Type 0} (f : X → ℕ) (xs rest : List X) (x : X) → xs ≡ rest ++ x ∷ [] → sum_by f xs ≡ sum_by f rest + f x
sum_last f xs rest x is = ap (sum_by f) is ∙ sum_by_push f rest x

-- what is added up over two lists stays, when an element goes over
pub moved : {X Y : Type 0} (f : X → ℕ) (g : Y → ℕ) (xs rest : List X) (x : X) (ys more : List Y) (y : Y) (total : ℕ)
    → xs ≡ rest ++ x ∷ [] → more ≡ ys ++ y ∷ [] → g y ≡ f x → sum_by g ys + sum_by f xs ≡ total → sum_by g more + sum_by f rest ≡ total
moved f g xs rest x ys more y total popped pushed same sum = omega (arith, sum_last f xs rest x popped, sum_last g more ys y pushed, same, sum)

pub sum_map : {X Y : Type 0} (f : Y → ℕ) (of : X → Y) (xs : List X) → sum_by f (map of xs) ≡ sum_by (λ x. f (of x)) xs
sum_map f of [] = refl
sum_map f of (x ∷ xs) = omega (arith, sum_by-cons f (of x) (map of xs), sum_by-cons (λ x. f (of x)) x xs, sum_map f of xs)

-- ---- the stocks of one kind, of tools

module _ (supply : SupplyView) (owners : OwnersView) (of : ToolsView → StockView) (all : List ToolsView) where
  -- those of all tools but the rest, in some order
  pub record AreSome (rest : List ToolsView) (some : List StockView) : Type 0 where
    pub unused : All (IsUnused supply owners) some
    pub count : length some + length rest ≡ length all
    pub alike : (f : StockView → ℕ) → sum_by f some + sum_by (λ t. f (of t)) rest ≡ sum_by (λ t. f (of t)) all

  pub none_yet : (some : List StockView) → some ≡ [] → AreSome all some
  none_yet some empty = record {
    unused = subst (All (IsUnused supply owners)) (sym empty) (All-nil (IsUnused supply owners));
    count = omega (arith, ap length empty);
    alike = λ f. omega (arith, ap (sum_by f) empty);
  }

  pub one_more : (rest less : List ToolsView) (t : ToolsView) (some more : List StockView) (s : StockView) → rest ≡ less ++ t ∷ [] → more ≡ some ++ s ∷ []
      → s ≡ of t → IsUnused supply owners (of t) → AreSome rest some → AreSome less more
  one_more rest less t some more s popped pushed is unused i = record {
    unused = subst (All (IsUnused supply owners)) (sym pushed) (All-push (IsUnused supply owners) some s i.unused (subst (IsUnused supply owners) (sym is) unused));
    count = omega (arith, ap length popped, ap length pushed, length-append less (t ∷ []), length-append some (s ∷ []), i.count);
    alike = λ f. moved (λ t. f (of t)) f rest less t some more s (sum_by (λ t. f (of t)) all) popped pushed (ap f is) (i.alike f);
  }

  pub all_parted : (rest : List ToolsView) (some : List StockView) → length rest ≡ 0 → AreSome rest some → AreAll supply owners (map of all) some
  all_parted [] some none i = record {
    unused = i.unused;
    count = omega (arith, i.count, length-map all of);
    alike = λ f. omega (arith, i.alike f, sum_map f of all);
  }
  all_parted (t ∷ rest) some none i = absurd (omega (arith, none))
