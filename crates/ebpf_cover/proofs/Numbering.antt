-- The number of instructions from each slot on that go straight on, from the last slot down, and the sums over slots, from the first up.
use Rattle.std.proofs.Common.{◌≡◌, ◌≢◌, ℕ, zero, suc, ◌+◌, ◌<◌, ◌≤◌, ◌==◌, cond, Bool, true, false, List, Option, Some, None, length, set, get_or}
use Rattle.std.proofs.Common.{refl, sym, ap, ◌∙◌, inl, inr, ◌⊎◌, arith}
use Rattle.std.proofs.lemmas.Bool.Decides.{nat_tests}
use Rattle.std.proofs.lemmas.List.{get_or-set_same, get_or-set_other, get_or_past, length-set}
use Rattle.std.proofs.lemmas.Bool.{cases_eq, cases_lt}
use Rattle.ebpf_insn.specs.declared.insn.Insn.{Insn}
use Rattle.ebpf_insn.specs.Program.{insn_at}
use Rattle.ebpf_insn.proofs.ProgramLemmas.{insn_at_within}
use Rattle.ebpf_flow.specs.Edges.{edges_of}
use Rattle.ebpf_cover.specs.declared.tally.Tally.{Tally}
use Rattle.ebpf_cover.specs.Stretches.{is_only, goes_on, AreStraight, passed, IsTally, slots_in, begun_at, executed_so_far}

-- ---- from the last slot down

-- the numbers of all slots but the first ones of a program
pub record AreNumbered (p : List (Option Insn)) (slots past : ℕ) (numbers : List ℕ) : Type 0 where
  pub long : length numbers ≡ slots
  pub none : (slot : ℕ) → slot + past < slots → get_or numbers slot 0 ≡ 0
  pub done : (slot : ℕ) → slots ≤ slot + past → get_or numbers slot 0 ≡ cond (goes_on p slot) (get_or numbers (slot + 1) 0 + 1) 0
  pub inside : (slot : ℕ) → slot < slots → slot + get_or numbers slot 0 < slots

-- no instruction is past the end
off_past : (p : List (Option Insn)) (slot : ℕ) → length p ≤ slot → goes_on p slot ≡ false
off_past p slot past = by (insn_at p slot) refl where
  by : (i : Option Insn) → insn_at p slot ≡ i → goes_on p slot ≡ false
  by None e = ap (λ (i : Option Insn). is_only (edges_of i slot).fall (edges_of i slot).jump (slot + 1)) e
  by (Some i) e = absurd (let few = insn_at_within p slot i e in omega (arith, few, past))

pub none_numbered : (p : List (Option Insn)) (slots : ℕ) (numbers : List ℕ) → slots ≡ length p → length numbers ≡ slots → ((slot : ℕ) → get_or numbers slot 0 ≡ 0) → AreNumbered p slots 0 numbers
none_numbered p slots numbers all long zeros = record {
  long = long;
  none = λ slot few. zeros slot;
  done = λ slot past. zeros slot ∙ sym (ap (λ (b : Bool). cond {A = ℕ} b (get_or numbers (slot + 1) 0 + 1) 0) (off_past p slot (omega (arith, past, all))));
  inside = λ slot few. let none = zeros slot in omega (arith, few, none);
}

-- the one before goes straight on
pub one_numbered : (p : List (Option Insn)) (slots past at number : ℕ) (numbers : List ℕ) → at + past + 1 ≡ slots → at + 1 < slots → goes_on p at ≡ true
    → number ≡ get_or numbers (at + 1) 0 + 1 → AreNumbered p slots past numbers → AreNumbered p slots (past + 1) (set numbers at number)
one_numbered p slots past at number numbers here more on is h = record {
  long = length-set numbers at number ∙ h.long;
  none = λ slot below. other slot (omega (arith, below, here)) ∙ h.none slot (omega (arith, below));
  done = λ slot above. done slot above (cases_eq slot at);
  inside = λ slot below. inside slot below (cases_eq slot at);
}
  where
    other : (slot : ℕ) → slot ≢ at → get_or (set numbers at number) slot 0 ≡ get_or numbers slot 0
    other slot ne = get_or-set_other numbers at slot number 0 ne

    same : get_or (set numbers at number) at 0 ≡ number
    same = get_or-set_same numbers at number 0 (omega (arith, more, h.long))

    next : get_or (set numbers at number) (at + 1) 0 ≡ get_or numbers (at + 1) 0
    next = other (at + 1) (omega arith)

    done : (slot : ℕ) → slots ≤ slot + (past + 1) → (slot ≡ at) ⊎ (slot ≢ at)
        → get_or (set numbers at number) slot 0 ≡ cond (goes_on p slot) (get_or (set numbers at number) (slot + 1) 0 + 1) 0
    done slot above (inl e) = rw (e, on) (same ∙ is ∙ sym (ap (λ (n : ℕ). n + 1) next))
    done slot above (inr ne) = other slot ne ∙ h.done slot (omega (arith, above, here, ne)) ∙ sym (ap (λ (n : ℕ). cond {A = ℕ} (goes_on p slot) (n + 1) 0) (other (slot + 1) (omega (arith, above, here, ne))))

    inside : (slot : ℕ) → slot < slots → (slot ≡ at) ⊎ (slot ≢ at) → slot + get_or (set numbers at number) slot 0 < slots
    inside slot below (inl e) =
        let after = h.inside (at + 1) (omega (arith, more)) in
        let this = ap (λ (k : ℕ). get_or (set numbers at number) k 0) e in
        omega (arith, after, this, same, is, e)
    inside slot below (inr ne) = let was = h.inside slot below in let this = other slot ne in omega (arith, was, this)

-- it doesn't
pub none_more_numbered : (p : List (Option Insn)) (slots past at : ℕ) (numbers : List ℕ) → at + past + 1 ≡ slots → goes_on p at ≡ false
    → AreNumbered p slots past numbers → AreNumbered p slots (past + 1) numbers
none_more_numbered p slots past at numbers here off h = record {
  long = h.long;
  none = λ slot below. h.none slot (omega (arith, below));
  done = λ slot above. done slot above (cases_eq slot at);
  inside = h.inside;
}
  where
    done : (slot : ℕ) → slots ≤ slot + (past + 1) → (slot ≡ at) ⊎ (slot ≢ at) → get_or numbers slot 0 ≡ cond (goes_on p slot) (get_or numbers (slot + 1) 0 + 1) 0
    done slot above (inl e) = rw (e, off) (h.none at (omega (arith, here)))
    done slot above (inr ne) = h.done slot (omega (arith, above, here, ne))

pub all_numbered : (p : List (Option Insn)) (slots past : ℕ) (numbers : List ℕ) → slots ≡ past → AreNumbered p slots past numbers → AreStraight p numbers
all_numbered p slots past numbers all h = λ slot. h.done slot (omega (arith, all))

-- ---- from the first slot up

-- the slots below this one have their counts
pub record AreSummed (p : List (Option Insn)) (t : Tally) (upto : ℕ) (executed : List ℕ) : Type 0 where
  pub long : length executed ≡ slots_in t
  pub done : (slot : ℕ) → slot < upto → get_or executed slot 0 ≡ executed_so_far p t slot
  pub left : (slot : ℕ) → upto ≤ slot → get_or executed slot 0 ≡ begun_at t slot

pub one_summed : (p : List (Option Insn)) (t : Tally) → IsTally p t → AreSummed p t 1 t.begun.items
unfolding passed
one_summed p t h = record { long = h.wide.begun; done = done; left = λ slot above. refl } where
  done : (slot : ℕ) → slot < 1 → get_or t.begun.items slot 0 ≡ executed_so_far p t slot
  done zero below = refl
  done (suc slot) below = absurd (omega (arith, below))

sum_at : (p : List (Option Insn)) (t : Tally) (before slot : ℕ) → slot ≡ suc before → executed_so_far p t slot ≡ begun_at t slot + cond (goes_on p before) (executed_so_far p t before) 0
unfolding passed
sum_at p t before slot same = rw same refl

-- the next one
pub next_summed : (p : List (Option Insn)) (t : Tally) (before upto more : ℕ) (was is : List ℕ) → before + 1 ≡ upto → more ≡ cond (goes_on p before) (get_or was before 0) 0
    → length is ≡ length was → ((slot : ℕ) → get_or is slot 0 ≡ get_or was slot 0 + cond (upto == slot) more 0) → AreSummed p t upto was → AreSummed p t (upto + 1) is
next_summed p t before upto more was is follows is_more long added h = record {
  long = long ∙ h.long;
  done = λ slot below. done slot below (cases_eq slot upto);
  left = λ slot above. let one = added slot in let none = other slot (omega (arith, above)) in omega (arith, one, none) ∙ h.left slot (omega (arith, above));
}
  where
    other : (slot : ℕ) → slot ≢ upto → cond {A = ℕ} (upto == slot) more 0 ≡ 0
    other slot ne = grind (arith, nat_tests)

    this : (slot : ℕ) → slot ≡ upto → cond {A = ℕ} (upto == slot) more 0 ≡ more
    this slot e = grind (arith, nat_tests)

    done : (slot : ℕ) → slot < upto + 1 → (slot ≡ upto) ⊎ (slot ≢ upto) → get_or is slot 0 ≡ executed_so_far p t slot
    done slot below (inr ne) = let one = added slot in let none = other slot ne in let was_so = h.done slot (omega (arith, below, ne)) in omega (arith, one, none, was_so)
    done slot below (inl e) =
        let one = added slot in
        let all = this slot e in
        let was_so = h.left slot (omega (arith, e)) in
        let last = ap (λ (n : ℕ). cond {A = ℕ} (goes_on p before) n 0) (h.done before (omega (arith, follows))) in
        let sum = sum_at p t before slot (omega (arith, e, follows)) in
        omega (arith, one, all, was_so, last, is_more, sum)

pub none_next_summed : (p : List (Option Insn)) (t : Tally) (before upto : ℕ) (executed : List ℕ) → before + 1 ≡ upto → 0 ≡ cond (goes_on p before) (get_or executed before 0) 0
    → AreSummed p t upto executed → AreSummed p t (upto + 1) executed
none_next_summed p t before upto executed follows none h = next_summed p t before upto 0 executed executed follows none refl (λ slot. nothing (upto == slot) (get_or executed slot 0)) h where
  nothing : (b : Bool) (n : ℕ) → n ≡ n + cond b 0 0
  nothing true n = omega arith
  nothing false n = omega arith

-- whether a slot goes straight on is read off its number
pub on_by : (p : List (Option Insn)) (t : Tally) (slot number : ℕ) → IsTally p t → number ≡ get_or t.straight.items slot 0 → 0 < number → goes_on p slot ≡ true
on_by p t slot number h is some = by (goes_on p slot) (h.straight slot) where
  by : (b : Bool) → get_or t.straight.items slot 0 ≡ cond {A = ℕ} b (get_or t.straight.items (slot + 1) 0 + 1) 0 → b ≡ true
  by true e = refl
  by false e = absurd (omega (arith, e, is, some))

pub off_by : (p : List (Option Insn)) (t : Tally) (slot number : ℕ) → IsTally p t → number ≡ get_or t.straight.items slot 0 → number ≤ 0 → goes_on p slot ≡ false
off_by p t slot number h is none = by (goes_on p slot) (h.straight slot) where
  by : (b : Bool) → get_or t.straight.items slot 0 ≡ cond {A = ℕ} b (get_or t.straight.items (slot + 1) 0 + 1) 0 → b ≡ false
  by true e = absurd (omega (arith, e, is, none))
  by false e = refl

-- past the last slot nothing is counted
last_number : (p : List (Option Insn)) (t : Tally) → IsTally p t → (slot : ℕ) → slots_in t ≤ suc slot → get_or t.straight.items slot 0 ≤ 0
last_number p t h slot past = by (cases_lt slot (slots_in t)) where
  by : (slot < slots_in t) ⊎ (slots_in t ≤ slot) → get_or t.straight.items slot 0 ≤ 0
  by (inl below) = let inside = h.wide.inside slot below in omega (arith, inside, past)
  by (inr above) = let none = get_or_past t.straight.items slot 0 above in omega (arith, none)

none_past : (p : List (Option Insn)) (t : Tally) → IsTally p t → (slot : ℕ) → slots_in t ≤ slot → executed_so_far p t slot ≡ 0
unfolding passed
none_past p t h zero past = get_or_past t.begun.items 0 0 (omega (arith, past, h.wide.begun))
none_past p t h (suc slot) past =
    let none = get_or_past t.begun.items (suc slot) 0 (omega (arith, past, h.wide.begun)) in
    let off = ap (λ (b : Bool). cond {A = ℕ} b (executed_so_far p t slot) 0) (off_by p t slot _ h refl (last_number p t h slot past)) in
    omega (arith, none, off)

pub all_summed : (p : List (Option Insn)) (t : Tally) (upto : ℕ) (executed : List ℕ) → IsTally p t → slots_in t ≤ upto → AreSummed p t upto executed
    → (slot : ℕ) → get_or executed slot 0 ≡ executed_so_far p t slot
all_summed p t upto executed h all sums slot = by (cases_lt slot (slots_in t)) where
  by : (slot < slots_in t) ⊎ (slots_in t ≤ slot) → get_or executed slot 0 ≡ executed_so_far p t slot
  by (inl below) = sums.done slot (omega (arith, below, all))
  by (inr past) = get_or_past executed slot 0 (omega (arith, past, sums.long)) ∙ sym (none_past p t h slot past)
