-- What a claim and a release do to the list of a seat that holds each slot once.
use Rattle.std.proofs.Common.{◌≡◌, ◌≢◌, ℕ, zero, suc, ◌+◌, ◌<◌, ◌≤◌, Bool, true, false, List, [], ◌∷◌, length, refl, sym, ap, ◌∙◌, arith}
use Rattle.std.specs.Prelude.{if◌then◌else◌, ◌==◌}
use Rattle.std.proofs.lemmas.Bool.Decides.{nat_tests}
use Rattle.std.proofs.lemmas.List.Sums.{sum_by-cons}
use Rattle.owners_table.specs.Owning.{SeatView, Holds, without}
use Rattle.owners_table.proofs.Lists.{weigh-without}
use Rattle.ebpf_owned.specs.Claims.{count_of, lost, Once}

-- 1 where it holds
abbrev pub one_at : Bool → ℕ
one_at b = if b then 1 else 0

pub same : (x : ℕ) → (x == x) ≡ true
same x = grind (arith, nat_tests)

pub differ : (a b : ℕ) → (a ≡ b → ⊥) → (a == b) ≡ false
differ a b apart = grind (arith, nat_tests)

none_of : (n : ℕ) → (0 < n → ⊥) → n ≡ 0
none_of zero none = refl
none_of (suc n) none = absurd (none (omega arith))

pub count_of-cons : (x : ℕ) (e : ℕ × ℕ) (es : List (ℕ × ℕ)) → count_of x (e ∷ es) ≡ one_at (e.0 == x) + count_of x es
count_of-cons x e es = sum_by-cons (λ (e : ℕ × ℕ). if e.0 == x then 1 else 0) e es

-- one entry of the slot goes, and no other
count_of-without : (slot x : ℕ) (es : List (ℕ × ℕ)) → Holds slot es → count_of x (without slot es) + one_at (slot == x) ≡ count_of x es
count_of-without slot x es has = weigh-without (λ k w. one_at (k == x)) slot es has

pub length-without : (slot : ℕ) (es : List (ℕ × ℕ)) → Holds slot es → length (without slot es) + 1 ≡ length es
length-without slot [] has = absurd (omega arith)
length-without slot (e ∷ es) has = go (λ has. length-without slot es has) (e.0 == slot) refl
  where
    go : (Holds slot es → length (without slot es) + 1 ≡ length es) → (b : Bool) → (e.0 == slot) ≡ b
        → length (if b then es else e ∷ without slot es) + 1 ≡ length (e ∷ es)
    go again true is = omega arith
    go again false is =
        let k = count_of-cons slot e es in
        let o : one_at (e.0 == slot) ≡ 0 = ap one_at is in
        let r = again (omega arith) in
        omega arith

-- each slot is there once after a claim of one that wasn't held
pub once_claimed : (slot word : ℕ) (old new : List (ℕ × ℕ)) → new ≡ (slot, word) ∷ old → (Holds slot old → ⊥) → Once old → Once new
once_claimed slot word old new is none once x = at (slot == x) refl
  where
    at : (b : Bool) → (slot == x) ≡ b → count_of x new ≤ 1
    at true eq =
        let e : slot ≡ x = grind (arith, nat_tests) in
        let n = ap (count_of x) is in
        let c = count_of-cons x (slot, word) old in
        let o = ap one_at eq in
        let z : count_of x old ≡ 0 = none_of (count_of x old) (λ h. none (rw e h)) in
        omega arith
    at false eq =
        let n = ap (count_of x) is in
        let c = count_of-cons x (slot, word) old in
        let o = ap one_at eq in
        let p = once x in
        omega arith

-- and after a release of one that was held
pub once_released : (s slot : ℕ) (old new : List (ℕ × ℕ)) → s ≡ slot → new ≡ without s old → Holds slot old → Once old → Once new
once_released s slot old new e is has once x =
    let c = count_of-without s x old (rw e has) in
    let n = ap (count_of x) is in
    let o = once x in
    omega arith

-- what stays of a seat that gave a slot up, to a shelf or to all
pub record IsReleased (old new : SeatView) : Type 0 where
  pub table : new.table ≡ old.table
  pub once : Once old.held → Once new.held
  pub lost : lost new.notes ≡ lost old.notes

pub released : (s slot : ℕ) (old new : SeatView) (shelved : List (ℕ × ℕ)) → new ≡ record old { held = without s old.held; shelved = shelved } → s ≡ slot
    → Holds slot old.held → IsReleased old new
released s slot old new shelved is same has = record {
  table = ap (λ v. v.table) is;
  once = once_released s slot old.held new.held same (ap (λ v. v.held) is) has;
  lost = ap (λ v. lost v.notes) is;
}

pub once_same : (old new : List (ℕ × ℕ)) → new ≡ old → Once old → Once new
once_same old new is once x = let n = ap (count_of x) is in let c = once x in omega arith

-- what is held after a release was held before, and is another slot
pub held_before : (s slot x : ℕ) (old new : List (ℕ × ℕ)) → s ≡ slot → new ≡ without slot old → Holds s old → Once old → Holds x new → Holds x old × (x ≢ s)
held_before s slot x old new e is has once now =
    let c = count_of-without slot x old (rw (sym e) has) in
    let n = ap (count_of x) is in
    (omega arith, λ f. let g : slot ≡ x = sym e ∙ sym f in let t : (slot == x) ≡ true = rw g (same x) in let o : one_at (slot == x) ≡ 1 = ap one_at t in let k : count_of x old ≤ 1 = once x in omega arith)

-- another slot that was held is held after it
pub held_after : (s slot x : ℕ) (old new : List (ℕ × ℕ)) → s ≡ slot → new ≡ without slot old → Holds s old → Holds x old → x ≢ s → Holds x new
held_after s slot x old new e is has other apart =
    let c = count_of-without slot x old (rw (sym e) has) in
    let n = ap (count_of x) is in
    let o : one_at (slot == x) ≡ 0 = ap one_at (differ slot x (λ f. apart (sym f ∙ sym e))) in
    omega arith

-- a list without its first entry
pub without_first : (slot word : ℕ) (es all : List (ℕ × ℕ)) → all ≡ (slot, word) ∷ es → without slot all ≡ es
without_first slot word es all is = ap (without slot) is ∙ ap (λ b. if b then es else (slot, word) ∷ without slot es) (same slot)
