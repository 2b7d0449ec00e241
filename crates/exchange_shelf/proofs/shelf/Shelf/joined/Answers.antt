use Rattle.std.proofs.Common.{◌≡◌, ◌+◌, ℕ, ◌++◌, All, subst, sym, ap, ◌∙◌, arith}
use Rattle.std.specs.Prelude.{sum_by, ◌%◌, ◌^◌}
use Rattle.std.proofs.Math.Nat.{add-mod-mod, mod-add-mod}
use Rattle.shared_row.proofs.Lists.{all_front, all_last, last-first, sum-last}
use Rattle.exchange_shelf.specs.Views.{ShelfView, HandView}
use Rattle.exchange_shelf.proofs.Steps.{joining}
use Rattle.exchange_shelf.proofs.shelf.Shelf.joined.Goals as goal

-- counts without what is past 2^64, added up
counts-add : (a b x y s : ℕ) → a ≡ x % 2 ^ 64 → b ≡ y % 2 ^ 64 → s ≡ x + y → (a + b) % 2 ^ 64 ≡ s % 2 ^ 64
counts-add a b x y s e f sum =
    ap (λ (n : ℕ). (n + b) % 2 ^ 64) e ∙ (ap (λ (n : ℕ). (x % 2 ^ 64 + n) % 2 ^ 64) f
    ∙ (add-mod-mod (x % 2 ^ 64) y (2 ^ 64) ∙ (mod-add-mod x (2 ^ 64) y ∙ ap (λ (n : ℕ). n % 2 ^ 64) (sym sum))))

pub returned-all-requires : goal.returned-all-requires
returned-all-requires g c =
    let all = subst (All (λ (h : HandView). h.table ≡ c.args.self.now.table)) c.in-Some.ensures.items c.requires.hands in
    all_last (λ (h : HandView). h.table ≡ c.args.self.now.table) c.pop.new.self.items _ all

pub loop-other-init : goal.loop-other-init
loop-other-init g c =
    let items = c.in-Some.ensures.items in
    let rest = c.pop.new.self.items in
    let all = subst (All (λ (h : HandView). h.table ≡ c.args.self.now.table)) items c.requires.hands in
    let own = c.returned-all.ensures in record {
      table = own.table;
      bare = own.empty.0;
      held = own.empty.1;
      some = own.empty.2;
      parts = ap (λ (n : ℕ). n + sum_by (λ (h : HandView). h.parts) rest) own.parts ∙ last-first (λ (h : HandView). h.parts) _ rest _ items;
      puts = ap (λ (n : ℕ). n + sum_by (λ (h : HandView). h.puts) rest) own.exact.0 ∙ last-first (λ (h : HandView). h.puts) _ rest _ items;
      gets = ap (λ (n : ℕ). n + sum_by (λ (h : HandView). h.gets) rest) own.exact.1 ∙ last-first (λ (h : HandView). h.gets) _ rest _ items;
      put_count = own.counts.0 ∙ ap (λ (n : ℕ). n % 2 ^ 64) (sym own.exact.0);
      get_count = own.counts.1 ∙ ap (λ (n : ℕ). n % 2 ^ 64) (sym own.exact.1);
      rest = all_front (λ (h : HandView). h.table ≡ c.args.self.now.table) rest _ all;
    }

pub returned-seat-requires : goal.returned-seat-requires
returned-seat-requires g c =
    let all = subst (All (λ (h : HandView). h.table ≡ c.args.self.now.table)) c.in-Some-pop.ensures.items c.loop-other.invariant.rest in
    all_last (λ (h : HandView). h.table ≡ c.args.self.now.table) c.pop-in-loop-other.new.self.items _ all

pub join_seat-requires : goal.join_seat-requires
join_seat-requires g c =
    let i = c.loop-other.invariant in
    let here = sym (ap (λ (o : ShelfView). o.table) c.self.view_is) in
    let words = c.self.invariant.0 in
    (i.table ∙ here, c.returned-seat.ensures.table ∙ here, c.returned-seat.ensures.empty.0, omega arith, joining _ _ _ _ _ _ i.some)

pub loop-other-preserved : goal.loop-other-preserved
loop-other-preserved g c =
    let i = c.loop-other.invariant in
    let items = c.in-Some-pop.ensures.items in
    let rest = c.pop-in-loop-other.new.self.items in
    let all = subst (All (λ (h : HandView). h.table ≡ c.args.self.now.table)) items i.rest in
    let own = c.returned-seat.ensures in
    let j = c.join_seat.ensures in
    let parts = ap (λ m. m.0.parts) j.2 in
    let puts = ap (λ m. m.0.puts) j.2 in
    let gets = ap (λ m. m.0.gets) j.2 in record {
      table = j.0 ∙ i.table;
      bare = ap (λ m. m.1) j.2 ∙ i.bare;
      held = ap (λ m. m.0.held) j.2 ∙ (ap (λ ks. ks ++ c.returned-seat.result.seat.me.0.held) i.held ∙ own.empty.1);
      some = let s = i.some in omega arith;
      parts = let s = sum-last (λ (h : HandView). h.parts) _ rest _ items in let e = own.parts in let q = i.parts in omega arith;
      puts = let s = sum-last (λ (h : HandView). h.puts) _ rest _ items in let e = own.exact.0 in let q = i.puts in omega arith;
      gets = let s = sum-last (λ (h : HandView). h.gets) _ rest _ items in let e = own.exact.1 in let q = i.gets in omega arith;
      put_count = counts-add _ _ _ _ _ i.put_count (own.counts.0 ∙ ap (λ (n : ℕ). n % 2 ^ 64) (sym own.exact.0)) puts;
      get_count = counts-add _ _ _ _ _ i.get_count (own.counts.1 ∙ ap (λ (n : ℕ). n % 2 ^ 64) (sym own.exact.1)) gets;
      rest = all_front (λ (h : HandView). h.table ≡ c.args.self.now.table) rest _ all;
    }
