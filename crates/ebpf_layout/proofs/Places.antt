-- Where what was reached is in the new program.
use Rattle.std.proofs.Common.{◌≡◌, ℕ, ◌+◌, ◌-◌, ◌<◌, ℤ, pos, List, [], ◌∷◌, length, get_or, Option, Some, None, refl, sym, ap, ◌∙◌, subst, arith, inl, inr, ◌⊎◌}
use Rattle.std.specs.Prelude.{slice_get, reverse}
use Rattle.std.proofs.lemmas.Bool.{cases_order}
use Rattle.std.proofs.lemmas.Option.{none-some, same_Some, slice_get_within, slice_get-get_or, get_or_from_slice_get}
use Rattle.std.proofs.lemmas.List.{get_or-reverse, length-reverse}
use Rattle.ebpf_insn.specs.declared.insn.Insn.{Insn}
use Rattle.ebpf_insn.specs.declared.insn.Insn.TheVariants as insn
use Rattle.ebpf_insn.specs.Program.{flattened, insn_at, slots_in}
use Rattle.ebpf_flow.specs.Edges.{falls, jump_of, fall_of, edges_at}
use Rattle.ebpf_layout.specs.declared.mark.Mark.{Mark}
use Rattle.ebpf_layout.specs.declared.mark.Mark.TheVariants.{New, Open, Done}
use Rattle.ebpf_layout.specs.Paths.{LeadBy, IsReached}
use Rattle.ebpf_layout.specs.EdgeFaults.{edge_fault_at}
use Rattle.ebpf_layout.specs.Layout.{moved, IsJumpTo, FallsTo, IsKept, JumpsBetween, IsAdded, IsLaidOut, IsLaidAs, copied_in}
use Rattle.ebpf_layout.specs.Search.{mark_at, IsOrder}
use Rattle.ebpf_layout.specs.Writing.{StandsAt, JumpsTo, IsWritten, IsAddedAt, IsWriting, HavePlaces, AreCopied}
use Rattle.ebpf_layout.proofs.PathLemmas.{jump_edge, fall_edge, jump_of_edge, fall_of_edge}
use Rattle.ebpf_layout.proofs.CopiedSlots.{copied_back, copied_there}
use Rattle.ebpf_layout.proofs.Searching.{found, there_inside}
use Rattle.ebpf_layout.proofs.Reaching.{IsIn, last_number, last_in, behind_fine, ordered_insn}
use Rattle.ebpf_layout.proofs.Written.{slots_in-moved}

-- ---- the code read from its end

get_reverse : {X : Type 0} (xs : List X) (k j : ℕ) (x : X) → k + j + 1 ≡ length xs → slice_get xs j ≡ Some x → slice_get (reverse xs) k ≡ Some x
get_reverse xs k j x sum e =
    let inside : k < length (reverse xs) = omega (arith, length-reverse xs) in
    let at : length xs - 1 - k ≡ j = omega arith in
    slice_get-get_or (reverse xs) k x inside
    ∙ ap Some (get_or-reverse xs k x (omega arith) ∙ ap (λ (n : ℕ). get_or xs n x) at ∙ get_or_from_slice_get xs j x x e)

get_back : {X : Type 0} (xs : List X) (k : ℕ) (x : X) → slice_get (reverse xs) k ≡ Some x → (j : ℕ) × (k + j + 1 ≡ length xs) × (slice_get xs j ≡ Some x)
get_back xs k x e =
    let within : k < length (reverse xs) = slice_get_within (reverse xs) k x e in
    let inside : k < length xs = omega (arith, length-reverse xs) in
    let read : get_or (reverse xs) k x ≡ x = get_or_from_slice_get (reverse xs) k x x e in
    let there : get_or xs (length xs - 1 - k) x ≡ x = sym (get_or-reverse xs k x inside) ∙ read in
    (length xs - 1 - k, omega arith, slice_get-get_or xs (length xs - 1 - k) x (omega arith) ∙ ap Some there)

pub code_at : (code : List (Option Insn)) (k j : ℕ) (i : Insn) → k + j + 1 ≡ length code → slice_get code j ≡ Some (Some i) → insn_at (reverse code) k ≡ Some i
code_at code k j i sum e = ap flattened (get_reverse code k j (Some i) sum e)

some_some : (o : Option (Option Insn)) (i : Insn) → flattened o ≡ Some i → o ≡ Some (Some i)
some_some None i e = absurd (none-some i e)
some_some (Some o) i e = ap Some e

pub code_back : (code : List (Option Insn)) (k : ℕ) (i : Insn) → insn_at (reverse code) k ≡ Some i
    → (j : ℕ) × (k + j + 1 ≡ length code) × (slice_get code j ≡ Some (Some i))
code_back code k i e = get_back code k (Some i) (some_some (slice_get (reverse code) k) i e)

-- ---- all that is reached was written

-- what the search found, and what was written of it
pub record IsDone (p : List (Option Insn)) (marks : List Mark) (order places : List ℕ) (code : List (Option Insn)) (count : ℕ) : Type 0 where
  pub ordered : IsOrder p marks order
  pub fine : (k : ℕ) → IsReached p k → edge_fault_at p k ≡ None
  pub writing : IsWriting p order places code count
  pub all : length places ≡ length order

led_fine : (p : List (Option Insn)) (marks : List Mark) (order : List ℕ) → IsOrder p marks order → ((k : ℕ) → IsReached p k → edge_fault_at p k ≡ None)
    → (from : ℕ) (steps : List ℕ) (to n : ℕ) → slice_get order n ≡ Some from → LeadBy p from steps to → IsIn order to
led_fine p marks order h fine from [] to n at same = (n, subst (λ (x : ℕ). slice_get order n ≡ Some x) same at)
led_fine p marks order h fine from (next ∷ rest) to n at lead =
    let m = behind_fine p marks order n from next h fine at lead.0 in
    led_fine p marks order h fine next rest to m.0 m.2 lead.1

pub all_in : (p : List (Option Insn)) (marks : List Mark) (order : List ℕ) (slot : ℕ) → IsOrder p marks order
    → ((k : ℕ) → IsReached p k → edge_fault_at p k ≡ None) → IsReached p slot → IsIn order slot
all_in p marks order slot h fine reached =
    let zero = last_in p marks order h in
    led_fine p marks order h fine 0 reached.steps slot zero.0 zero.1 reached.lead

-- where what was at a slot is; what was not reached has a place of its own after the code
abbrev place_of : Mark → List ℕ → List (Option Insn) → ℕ → ℕ
place_of (Done n) places code slot = length code - 1 - get_or places n 0
place_of _ places code slot = length code + slot

abbrev pub place_in : List Mark → List ℕ → List (Option Insn) → ℕ → ℕ
place_in marks places code slot = place_of (mark_at marks slot) places code slot

pub place_is : (p : List (Option Insn)) (marks : List Mark) (order places : List ℕ) (code : List (Option Insn)) (count slot at : ℕ)
    → IsDone p marks order places code count
    → StandsAt order places slot at → place_in marks places code slot + at + 1 ≡ length code
place_is p marks order places code count slot at d s =
    let done = d.ordered.marked.order_mark slot s.number s.ordered in
    let read : get_or places s.number 0 ≡ at = get_or_from_slice_get places s.number at 0 s.placed in
    let inside = d.writing.written.inside s.number at s.placed in
    let there : length code - 1 - get_or places s.number 0 + at + 1 ≡ length code = omega arith in
    rw done there

-- what was reached, with where it is
pub record Stands (p : List (Option Insn)) (marks : List Mark) (order places : List ℕ) (code : List (Option Insn)) (slot : ℕ) : Type 0 where
  pub at : ℕ
  pub stands : StandsAt order places slot at
  pub place : place_in marks places code slot + at + 1 ≡ length code
  pub insn : Insn
  pub owned : insn_at p slot ≡ Some insn
  pub written : IsWritten order places code insn slot at

pub stands_in : (p : List (Option Insn)) (marks : List Mark) (order places : List ℕ) (code : List (Option Insn)) (count slot : ℕ)
    → IsDone p marks order places code count
    → IsIn order slot → Stands p marks order places code slot
stands_in p marks order places code count slot d n =
    let within : n.0 < length places = omega (arith, d.all, slice_get_within order n.0 slot n.1) in
    let at = found places n.0 within in
    let stands : StandsAt order places slot at.0 = record { number = n.0; ordered = n.1; placed = at.1 } in
    let i = ordered_insn p slot (insn_at p slot) refl (d.ordered.ordered n.0 slot n.1).1 in
    record {
      at = at.0;
      stands = stands;
      place = place_is p marks order places code count slot at.0 d stands;
      insn = i.0;
      owned = i.1;
      written = d.writing.written.each slot at.0 i.0 stands i.1;
    }

pub stands_if_reached : (p : List (Option Insn)) (marks : List Mark) (order places : List ℕ) (code : List (Option Insn)) (count slot : ℕ)
    → IsDone p marks order places code count
    → IsReached p slot → Stands p marks order places code slot
stands_if_reached p marks order places code count slot d reached =
    stands_in p marks order places code count slot d (all_in p marks order slot d.ordered d.fine reached)

-- ---- edges of the new program

jump_moved : (i : Insn) (slot to k way : ℕ) → jump_of i slot ≡ Some to → jump_of (moved i (pos way)) k ≡ Some (k + 1 + way)
jump_moved (insn.Jump offset) slot to k way e = refl
jump_moved (insn.JumpFar offset) slot to k way e = refl
jump_moved (insn.Branch width condition left right offset) slot to k way e = refl
jump_moved _ slot to k way e = absurd (none-some to e)

falls-moved : (i : Insn) (z : ℤ) → falls (moved i z) ≡ falls i
falls-moved (insn.Jump offset) z = refl
falls-moved (insn.JumpFar offset) z = refl
falls-moved (insn.Branch width condition left right offset) z = refl
falls-moved _ z = refl

fall_some : (i : Insn) (slot to k : ℕ) → fall_of i slot ≡ Some to → fall_of i k ≡ Some (k + slots_in i)
fall_some (insn.Jump offset) slot to k e = absurd (none-some to e)
fall_some (insn.JumpFar offset) slot to k e = absurd (none-some to e)
fall_some insn.Exit slot to k e = absurd (none-some to e)
fall_some _ slot to k e = refl

pub fall_moved : (i : Insn) (z : ℤ) (slot to k : ℕ) → fall_of i slot ≡ Some to → fall_of (moved i z) k ≡ Some (k + slots_in i)
fall_moved i z slot to k e = rw (falls-moved i z, slots_in-moved i z) (fall_some i slot to k e)

jump_to : (p : List (Option Insn)) (marks : List Mark) (order places : List ℕ) (code : List (Option Insn)) (count slot at k : ℕ)
    → IsDone p marks order places code count
    → JumpsTo order places code at slot → k + at + 1 ≡ length code → IsJumpTo (reverse code) k (place_in marks places code slot)
jump_to p marks order places code count slot at k d j sum =
    let to = place_is p marks order places code count slot j.to d j.there in
    let here = code_at code k at (insn.Jump (pos j.way)) sum j.here in
    let far : k + 1 + j.way ≡ place_in marks places code slot = omega (arith, j.way_is) in
    (pos j.way, here, jump_edge (reverse code) k (insn.Jump (pos j.way)) (place_in marks places code slot) here (ap Some far))

laid_jump : (p : List (Option Insn)) (marks : List Mark) (order places : List ℕ) (code : List (Option Insn)) (count slot to : ℕ)
    → IsDone p marks order places code count
    → Stands p marks order places code slot → (edges_at p slot).jump ≡ Some to
    → (edges_at (reverse code) (place_in marks places code slot)).jump ≡ Some (place_in marks places code to)
laid_jump p marks order places code count slot to d s e =
    let k = place_in marks places code slot in
    let jumps = jump_of_edge p slot s.insn to s.owned e in
    let j = s.written.jump to jumps in
    let there = place_is p marks order places code count to j.0 d j.1 in
    let here = code_at code k s.at (moved s.insn (pos s.written.way)) s.place s.written.here in
    let far : k + 1 + s.written.way ≡ place_in marks places code to = omega (arith, j.2, s.place) in
    jump_edge (reverse code) k (moved s.insn (pos s.written.way)) (place_in marks places code to) here
    (jump_moved s.insn slot to k s.written.way jumps ∙ ap Some far)

laid_fall : (p : List (Option Insn)) (marks : List Mark) (order places : List ℕ) (code : List (Option Insn)) (count slot to : ℕ)
    → IsDone p marks order places code count
    → Stands p marks order places code slot → (edges_at p slot).fall ≡ Some to
    → FallsTo (reverse code) (place_in marks places code slot) (place_in marks places code to)
laid_fall p marks order places code count slot to d s e =
    let k = place_in marks places code slot in
    let falls_to = fall_of_edge p slot s.insn to s.owned e in
    let f = s.written.fall to falls_to in
    let here = code_at code k s.at (moved s.insn (pos s.written.way)) s.place s.written.here in
    let sum : k + slots_in s.insn + f.0 + 1 ≡ length code = omega (arith, f.1, s.place) in (
      k + slots_in s.insn,
      fall_edge (reverse code) k (moved s.insn (pos s.written.way)) (k + slots_in s.insn) here (fall_moved s.insn (pos s.written.way) slot to k falls_to),
      elim f.2 [
        | inl stands ↦ let there = place_is p marks order places code count to f.0 d stands in inl (omega arith)
        | inr jumps ↦ inr (jump_to p marks order places code count to f.0 (k + slots_in s.insn) d jumps sum)
      ],
    )

-- ---- the layout

laid_first : (p : List (Option Insn)) (marks : List Mark) (order places : List ℕ) (code : List (Option Insn)) (count : ℕ)
    → IsDone p marks order places code count → place_in marks places code 0 ≡ 0
laid_first p marks order places code count d =
    let n = last_number p marks order d.ordered in
    let within : n.0 < length places = omega (arith, d.all, n.1) in
    let at = found places n.0 within in
    let stands : StandsAt order places 0 at.0 = record { number = n.0; ordered = n.2; placed = at.1 } in
    let place = place_is p marks order places code count 0 at.0 d stands in
    let long : n.0 + 1 ≡ length places = omega (arith, d.all, n.1) in
    let end : at.0 + 1 ≡ length code = d.writing.written.last n.0 long at.0 at.1 in
    omega arith

laid_apart : (p : List (Option Insn)) (marks : List Mark) (order places : List ℕ) (code : List (Option Insn)) (count a b : ℕ)
    → IsDone p marks order places code count
    → Stands p marks order places code a → Stands p marks order places code b → place_in marks places code a ≡ place_in marks places code b → a ≡ b
laid_apart p marks order places code count a b d x y same =
    let at : x.at ≡ y.at = omega (arith, x.place, y.place) in
    let m = x.stands.number in
    let n = y.stands.number in
    elim (cases_order m n) [
      | inl one ↦ same_Some a b (sym x.stands.ordered ∙ ap (slice_get order) one ∙ y.stands.ordered)
      | inr (inl before) ↦ absurd (omega (arith, d.writing.written.rising m n x.at y.at before x.stands.placed y.stands.placed))
      | inr (inr after) ↦ absurd (omega (arith, d.writing.written.rising n m y.at x.at after y.stands.placed x.stands.placed))
    ]

-- a slot that was done is somewhere, and any other has a place after the code
place_cases : (p : List (Option Insn)) (marks : List Mark) (order places : List ℕ) (code : List (Option Insn)) (count slot : ℕ)
    → IsDone p marks order places code count
    → (mark : Mark) → mark_at marks slot ≡ mark → Stands p marks order places code slot ⊎ (place_in marks places code slot ≡ length code + slot)
place_cases p marks order places code count slot d New e = inr (rw e refl)
place_cases p marks order places code count slot d (Open n) e = inr (rw e refl)
place_cases p marks order places code count slot d (Done n) e = inl (stands_in p marks order places code count slot d (n, d.ordered.marked.order_slot slot n e))

all_apart : (p : List (Option Insn)) (marks : List Mark) (order places : List ℕ) (code : List (Option Insn)) (count a b : ℕ)
    → IsDone p marks order places code count
    → place_in marks places code a ≡ place_in marks places code b → a ≡ b
all_apart p marks order places code count a b d same =
    elim (place_cases p marks order places code count a d (mark_at marks a) refl) [
      | inl x ↦ elim (place_cases p marks order places code count b d (mark_at marks b) refl) [
        | inl y ↦ laid_apart p marks order places code count a b d x y same
        | inr behind ↦ let place = x.place in absurd (omega arith)
      ]
      | inr gone ↦ elim (place_cases p marks order places code count b d (mark_at marks b) refl) [
        | inl y ↦ let place = y.place in absurd (omega arith)
        | inr behind ↦ omega arith
      ]
    ]

-- what the branch before a jump that was added leads to is between that jump and where it leads
laid_between : (p : List (Option Insn)) (marks : List Mark) (order places : List ℕ) (code : List (Option Insn)) (count k at : ℕ)
    → IsDone p marks order places code count → k + at + 1 ≡ length code
    → (a : IsAddedAt p order places code at) → JumpsBetween p (place_in marks places code) a.slot k (place_in marks places code a.to)
laid_between p marks order places code count k at d sum a =
    let over = place_is p marks order places code count a.over a.spot d a.between in
    let to = place_is p marks order places code count a.to a.jumps.to d a.jumps.there in
    (a.over, jump_edge p a.slot a.insn a.over a.owned a.leaps, omega (arith, a.below), omega (arith, a.above))

laid_only : (p : List (Option Insn)) (marks : List Mark) (order places : List ℕ) (code : List (Option Insn)) (count k : ℕ) (i : Insn)
    → IsDone p marks order places code count
    → insn_at (reverse code) k ≡ Some i → IsKept p (place_in marks places code) k ⊎ IsAdded p (reverse code) (place_in marks places code) k
laid_only p marks order places code count k i d e =
    let j = code_back code k i e in
    elim (d.writing.written.only j.0 i j.2) [
      | inl kept ↦
          let place = place_is p marks order places code count kept.0 j.0 d kept.1 in
          inl (kept.0, (d.ordered.ordered kept.1.number kept.0 kept.1.ordered).0, omega (arith, j.1))
      | inr a ↦
          let s = stands_in p marks order places code count a.slot d (a.owner.number, a.owner.ordered) in
          let place = place_is p marks order places code count a.slot a.of d a.owner in
          let one : s.insn ≡ a.insn = same_Some s.insn a.insn (sym s.owned ∙ a.owned) in
          let here = code_at code (place_in marks places code a.slot) s.at (moved s.insn (pos s.written.way)) s.place s.written.here in
          let falls_to : fall_of s.insn a.slot ≡ Some a.to = rw one a.falls in
          let size : slots_in s.insn ≡ slots_in a.insn = ap slots_in one in
          let at : place_in marks places code a.slot + slots_in s.insn ≡ k = omega (arith, a.behind, j.1) in
          inr (
            a.slot,
            a.to,
            (d.ordered.ordered a.owner.number a.slot a.owner.ordered).0,
            fall_edge p a.slot a.insn a.to a.owned a.falls,
            fall_edge (reverse code) (place_in marks places code a.slot) (moved s.insn (pos s.written.way)) k here
                (fall_moved s.insn (pos s.written.way) a.slot a.to (place_in marks places code a.slot) falls_to ∙ ap Some at),
            jump_to p marks order places code count a.to j.0 k d a.jumps j.1,
            laid_between p marks order places code count k j.0 d j.1 a,
          )
    ]

pub is_laid_out : (p : List (Option Insn)) (marks : List Mark) (order places : List ℕ) (code : List (Option Insn)) (count : ℕ)
    → IsDone p marks order places code count → IsLaidOut p (reverse code)
is_laid_out p marks order places code count d = record {
  place = place_in marks places code;
  first = laid_first p marks order places code count d;
  apart = λ a b same. all_apart p marks order places code count a b d same;
  there = λ slot reached. let n = all_in p marks order slot d.ordered d.fine reached in (d.ordered.ordered n.0 slot n.1).1;
  led = d.fine;
  same = λ slot i reached at.
      let s = stands_if_reached p marks order places code count slot d reached in
      let one : s.insn ≡ i = same_Some s.insn i (sym s.owned ∙ at) in (
        pos s.written.way,
        code_at code (place_in marks places code slot) s.at (moved s.insn (pos s.written.way)) s.place s.written.here
            ∙ ap (λ (x : Insn). Some (moved x (pos s.written.way))) one,
      );
  jumps = λ slot to reached e. laid_jump p marks order places code count slot to d (stands_if_reached p marks order places code count slot d reached) e;
  falls = λ slot to reached e. laid_fall p marks order places code count slot to d (stands_if_reached p marks order places code count slot d reached) e;
  only = λ k i e. laid_only p marks order places code count k i d e;
}

-- what was written has places
pub have_places : (p : List (Option Insn)) (marks : List Mark) (order places : List ℕ) (code : List (Option Insn)) (count : ℕ)
    → IsDone p marks order places code count → HavePlaces order places (length code)
have_places p marks order places code count d = record {
  all = d.all;
  few = λ n slot e. omega (arith, there_inside p slot (d.ordered.ordered n slot e).1, d.ordered.formed.few);
  inside = d.writing.written.inside;
  rising = d.writing.written.rising;
}

-- a slot of the new program copies the one that was written there
pub is_laid_as : (p : List (Option Insn)) (marks : List Mark) (order places : List ℕ) (code : List (Option Insn)) (count : ℕ) (of : List (Option ℕ))
    → IsDone p marks order places code count
    → length of ≡ length code → AreCopied order places (length order) of → IsLaidAs p (reverse code) (copied_in (reverse of))
unfolding is_laid_out
is_laid_as p marks order places code count of d even c = record {
  laid_out = is_laid_out p marks order places code count d;
  copied = λ at slot e.
      let back = copied_back of at slot e in
      let stands = c.only slot back.0 back.2 in
      let place = place_is p marks order places code count slot back.0 d stands in
      let here : place_in marks places code slot ≡ at = omega (arith, back.1) in
      ((d.ordered.ordered stands.number slot stands.ordered).0, here);
  all = λ slot reached.
      let s = stands_if_reached p marks order places code count slot d reached in
      copied_there of (place_in marks places code slot) s.at slot (s.place ∙ sym even)
      (c.each slot s.at s.stands (slice_get_within order s.stands.number slot s.stands.ordered));
}

-- each instruction of the code jumps forward or not at all
pub jumps_forward : (p : List (Option Insn)) (marks : List Mark) (order places : List ℕ) (code : List (Option Insn)) (count k : ℕ) (i : Insn)
    → IsDone p marks order places code count
    → insn_at (reverse code) k ≡ Some i → (j : Insn) × (way : ℕ) × (i ≡ moved j (pos way))
jumps_forward p marks order places code count k i d e =
    let j = code_back code k i e in
    elim (d.writing.written.only j.0 i j.2) [
      | inl kept ↦
          let old = ordered_insn p kept.0 (insn_at p kept.0) refl (d.ordered.ordered kept.1.number kept.0 kept.1.ordered).1 in
          let written = d.writing.written.each kept.0 j.0 old.0 kept.1 old.1 in
          (old.0, written.way, same_Some i (moved old.0 (pos written.way)) (same_Some (Some i) (Some (moved old.0 (pos written.way))) (sym j.2 ∙ written.here)))
      | inr a ↦ (
        insn.Jump (pos 0),
        a.jumps.way,
        same_Some i (insn.Jump (pos a.jumps.way))
            (same_Some (Some i) (Some (insn.Jump (pos a.jumps.way))) (sym j.2 ∙ a.jumps.here)),
      )
    ]

-- something is written, since slot 0 is reached
pub some_code : (p : List (Option Insn)) (marks : List Mark) (order places : List ℕ) (code : List (Option Insn)) (count : ℕ)
    → IsDone p marks order places code count → 0 < length code
some_code p marks order places code count d =
    let n = last_number p marks order d.ordered in
    let within : n.0 < length places = omega (arith, d.all, n.1) in
    let at = found places n.0 within in
    omega (arith, d.writing.written.inside n.0 at.0 at.1)
