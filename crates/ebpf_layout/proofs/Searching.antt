-- What a step of the search leaves.
use Rattle.std.proofs.Common.{◌≡◌, ◌≢◌, ℕ, zero, suc, ◌+◌, ◌-◌, ◌<◌, ◌≤◌, List, [], ◌∷◌, ◌++◌, length, take, replicate, Option, Some, None, false}
use Rattle.std.proofs.Common.{refl, sym, ap, ◌∙◌, subst, arith, inl, inr, ◌⊎◌}
use Rattle.std.specs.Prelude.{slice_get, slice_set, is_none, IfSome}
use Rattle.std.proofs.lemmas.Option.{none-some, same_Some, slice_get_within}
use Rattle.std.proofs.lemmas.Bool.{cases_lt, false≢true}
use Rattle.std.proofs.lemmas.List.{get_or-set_same, get_or-set_other, get_or-replicate, get_or_past, length-set, length_push, length-replicate, length-take-le}
use Rattle.std.specs.List.{flat_map}
use Rattle.ebpf_insn.specs.declared.insn.Insn.{Insn}
use Rattle.ebpf_insn.specs.declared.insn.Insn.TheVariants as insn
use Rattle.ebpf_insn.specs.Program.{insn_at, placed, instructions}
use Rattle.ebpf_insn.specs.Encoding.{IsWellFormed}
use Rattle.ebpf_insn.proofs.ProgramLemmas.{insn_at_within}
use Rattle.ebpf_flow.specs.Edges.{edges_at}
use Rattle.ebpf_layout.specs.declared.mark.Mark.{Mark}
use Rattle.ebpf_layout.specs.declared.mark.Mark.TheVariants.{New, Open, Done}
use Rattle.ebpf_layout.specs.Paths.{IsEdge, IsPath, IsReached}
use Rattle.ebpf_layout.specs.declared.fault.LayoutFault.{LayoutFault}
use Rattle.ebpf_layout.specs.declared.fault.LayoutFault.TheVariants.{Loop}
use Rattle.ebpf_layout.specs.Refusal.{IsLoop, IsLayoutFault}
use Rattle.ebpf_layout.specs.Search.{size_of, done_size, done_slots, slots_of, mark_at, if_there, standing, IsDone, is_done, left_at, left}
use Rattle.ebpf_layout.specs.Search.{IsBehind, AreMarked, IsSearch}
use Rattle.ebpf_layout.proofs.Lists.{get_kept, get_last, get_pushed, get_from_take, get_taken, set_cases}
use Rattle.ebpf_layout.proofs.PathLemmas.{path_none, path_more, path_before, edge_cases, jump_is_edge, fall_is_edge}

-- ---- how much is left

pub left-set : (marks : List Mark) (i : ℕ) (m : Mark) → i < length marks → left (slice_set marks i m) + left_at (mark_at marks i) ≡ left marks + left_at m
left-set [] i m lt = absurd (omega arith)
left-set (x ∷ marks) zero m lt = omega arith
left-set (x ∷ marks) (suc i) m lt = omega (arith, left-set marks i m (omega arith))

-- ---- how much is done

pub slots_of-push : (p : List (Option Insn)) (order : List ℕ) (slot : ℕ) → slots_of p (order ++ slot ∷ []) ≡ slots_of p order + size_of (insn_at p slot)
slots_of-push p [] slot = omega arith
slots_of-push p (x ∷ order) slot = omega (arith, slots_of-push p order slot)

size_open : (p : List (Option Insn)) (marks : List Mark) (to k : ℕ) → length marks ≡ length p → mark_at marks to ≡ New
    → done_slots p (slice_set marks to (Open k)) ≡ done_slots p marks
size_open [] marks to k all new = refl
size_open (o ∷ p) [] to k all new = refl
size_open (o ∷ p) (x ∷ marks) zero k all new = rw new refl
size_open (o ∷ p) (x ∷ marks) (suc to) k all new = ap (λ (n : ℕ). done_size x o + n) (size_open p marks to k (omega (arith, all)) new)

done_size-left : (m : Mark) (o : Option Insn) → is_done m ≡ false → done_size m o ≡ 0
done_size-left New o left = refl
done_size-left (Open k) o left = refl
done_size-left (Done n) o left = absurd (cc)

pub size_done : (p : List (Option Insn)) (marks : List Mark) (slot n : ℕ) → length marks ≡ length p → slot < length p → is_done (mark_at marks slot) ≡ false
    → done_slots p (slice_set marks slot (Done n)) ≡ done_slots p marks + size_of (insn_at p slot)
size_done [] marks slot n all lt left = absurd (omega arith)
size_done (o ∷ p) [] slot n all lt left = absurd (omega (arith, all))
size_done (o ∷ p) (x ∷ marks) zero n all lt left = omega (arith, done_size-left x o left)
size_done (o ∷ p) (x ∷ marks) (suc slot) n all lt left = omega (arith, size_done p marks slot n (omega (arith, all)) (omega arith) left)

pub none_done : (p : List (Option Insn)) (n : ℕ) → done_slots p (replicate n New) ≡ 0
none_done [] n = refl
none_done (o ∷ p) zero = refl
none_done (o ∷ p) (suc n) = omega (arith, none_done p n)

done_size-le : (m : Mark) (o : Option Insn) → done_size m o ≤ size_of o
done_size-le New o = omega arith
done_size-le (Open k) o = omega arith
done_size-le (Done n) o = omega arith

abbrev sizes : List (Option Insn) → ℕ
sizes [] = 0
sizes (o ∷ p) = size_of o + sizes p

done_below : (p : List (Option Insn)) (marks : List Mark) → done_slots p marks ≤ sizes p
done_below [] marks = omega arith
done_below (o ∷ p) [] = omega arith
done_below (o ∷ p) (x ∷ marks) = omega (arith, done_below p marks, done_size-le x o)

sizes-placed : (is : List Insn) → sizes (flat_map placed is) ≡ length (flat_map placed is)
sizes-placed [] = refl
sizes-placed (insn.Wide dst value ∷ is) = omega (arith, sizes-placed is)
sizes-placed (_ ∷ is) = omega (arith, sizes-placed is)

-- what is in the order takes up no more slots than there are
pub order_fits : (p : List (Option Insn)) (marks : List Mark) (path order : List ℕ) → IsSearch p marks path order → slots_of p order ≤ length p
order_fits p marks path order h =
    let whole : sizes p ≡ length p = subst (λ (q : List (Option Insn)). sizes q ≡ length q) (sym h.formed.placed) (sizes-placed (instructions p)) in
    omega (arith, h.size, done_below p marks)

-- ---- the marks

-- two slots with different marks are not one
apart : (marks : List Mark) (a b : ℕ) (x y : Mark) → mark_at marks a ≡ x → mark_at marks b ≡ y → (x ≡ y → ⊥) → a ≢ b
apart marks a b x y ea eb ne same = ne (sym ea ∙ ap (mark_at marks) same ∙ eb)

new_open : (k : ℕ) → Open k ≡ New → ⊥
new_open k e = cc

new_done : (k : ℕ) → Done k ≡ New → ⊥
new_done k e = cc

pub open_done : (j k : ℕ) → Open j ≡ Done k → ⊥
open_done j k e = cc

open_same : (j k : ℕ) → Open j ≡ Open k → j ≡ k
open_same j k e = cc

pub done_same : (j k : ℕ) → Done j ≡ Done k → j ≡ k
done_same j k e = cc

abbrev opened : List Mark → ℕ → ℕ → List Mark
opened marks to k = slice_set marks to (Open k)

abbrev closed : List Mark → ℕ → ℕ → List Mark
closed marks slot n = slice_set marks slot (Done n)

-- a slot that had another mark has it still
pub unset : (marks : List Mark) (i slot : ℕ) (m v : Mark) → slot ≢ i → mark_at marks slot ≡ v → mark_at (slice_set marks i m) slot ≡ v
unset marks i slot m v ne e = get_or-set_other marks i slot m New ne ∙ e

marked_open : (marks : List Mark) (path order : List ℕ) (to : ℕ) → AreMarked marks path order → to < length marks → mark_at marks to ≡ New
    → AreMarked (slice_set marks to (Open (length path))) (path ++ to ∷ []) order
marked_open marks path order to h lt new = record {
  path_slot = λ slot k e. elim (set_cases marks to (Open (length path)) New slot (Open k) lt e) [
    | inl here ↦ let at : k ≡ length path = sym (open_same (length path) k here.1) in rw (at, here.0) (get_last path to)
    | inr other ↦ get_kept path (to ∷ []) k slot (h.path_slot slot k other.1)
  ];
  path_mark = λ slot k e. elim (get_pushed path to k slot e) [
    | inl old ↦ let m = h.path_mark slot k old in unset marks to slot (Open (length path)) (Open k) (apart marks slot to (Open k) New m new (new_open k)) m
    | inr here ↦ rw (here.0, here.1) (get_or-set_same marks to (Open (length path)) New lt)
  ];
  order_slot = λ slot n e. elim (set_cases marks to (Open (length path)) New slot (Done n) lt e) [
    | inl here ↦ absurd (open_done (length path) n here.1)
    | inr other ↦ h.order_slot slot n other.1
  ];
  order_mark =
      λ slot n e. let m = h.order_mark slot n e in unset marks to slot (Open (length path)) (Done n) (apart marks slot to (Done n) New m new (new_done n)) m;
}

marked_close : (marks : List Mark) (path order : List ℕ) (at slot : ℕ) → AreMarked marks path order → slot < length marks
    → at + 1 ≡ length path → slice_get path at ≡ Some slot
    → AreMarked (slice_set marks slot (Done (length order))) (take at path) (order ++ slot ∷ [])
marked_close marks path order at slot h lt long top = record {
  path_slot = λ s k e. elim (set_cases marks slot (Done (length order)) New s (Open k) lt e) [
    | inl here ↦ absurd (open_done k (length order) (sym here.1))
    | inr other ↦
        let there = h.path_slot s k other.1 in
        let within : k < length path = slice_get_within path k s there in
        let ne : k ≢ at = λ same. other.0 (same_Some s slot (sym there ∙ ap (slice_get path) same ∙ top)) in
        get_taken at path k s (omega arith) there
  ];
  path_mark = λ s k e.
      let old = get_from_take at path k s e in
      let m = h.path_mark s k old.1 in
      let below : k < at = old.0 in
      let ne : k ≡ at → ⊥ = λ same. omega arith in
      unset marks slot s (Done (length order)) (Open k) (apart marks s slot (Open k) (Open at) m (h.path_mark slot at top) (λ q. ne (open_same k at q))) m;
  order_slot = λ s n e. elim (set_cases marks slot (Done (length order)) New s (Done n) lt e) [
    | inl here ↦ let number : n ≡ length order = sym (done_same (length order) n here.1) in rw (number, here.0) (get_last order slot)
    | inr other ↦ get_kept order (slot ∷ []) n s (h.order_slot s n other.1)
  ];
  order_mark = λ s n e. elim (get_pushed order slot n s e) [
    | inl old ↦ let m = h.order_mark s n old in
        unset marks slot s (Done (length order)) (Done n) (apart marks s slot (Done n) (Open at) m (h.path_mark slot at top) (λ q. open_done at n (sym q))) m
    | inr here ↦ rw (here.0, here.1) (get_or-set_same marks slot (Done (length order)) New lt)
  ];
}

-- ---- the path

-- an element of a list
pub found : {X : Type 0} (xs : List X) (k : ℕ) → k < length xs → (x : X) × (slice_get xs k ≡ Some x)
found [] k lt = absurd (omega arith)
found (x ∷ xs) zero lt = (x, refl)
found (x ∷ xs) (suc k) lt = found xs k (omega arith)

-- along the path there is a path from each slot to each later one
along : (p : List (Option Insn)) (path : List ℕ) → ((k from to : ℕ) → slice_get path k ≡ Some from → slice_get path (k + 1) ≡ Some to → IsEdge p from to)
    → (d k j from to : ℕ) → k + d ≡ j → slice_get path k ≡ Some from → slice_get path j ≡ Some to → IsPath p from to
along p path linked zero k j from to e at end =
    let same : k ≡ j = omega arith in
    let one : from ≡ to = same_Some from to (sym at ∙ ap (slice_get path) same ∙ end) in
    subst (λ (x : ℕ). IsPath p from x) one (path_none p from)
along p path linked (suc d) k j from to e at end =
    let inside : j < length path = slice_get_within path j to end in
    let next = found path (k + 1) (omega arith) in
    path_before p from next.0 to (linked k from next.0 at next.1) (along p path linked d (k + 1) j next.0 to (omega arith) next.1 end)

-- an edge to a slot on the path closes a loop
pub loop_closed : (p : List (Option Insn)) (marks : List Mark) (path order : List ℕ) (at slot to k : ℕ) → IsSearch p marks path order → at + 1 ≡ length path
    → slice_get path at ≡ Some slot → IsEdge p slot to → mark_at marks to ≡ Open k → IsLoop p slot to
loop_closed p marks path order at slot to k h long top edge opened =
    let there = h.marked.path_slot to k opened in
    let within : k < length path = slice_get_within path k to there in
    record {
      reached = h.reached at slot top;
      edge = edge;
      back = along p path h.linked (at - k) k at to slot (omega arith) there top;
    }

-- ---- one slot more on the path

-- an element before the last one that was pushed
get_old : {X : Type 0} (xs : List X) (y : X) (k : ℕ) (x : X) → k < length xs → slice_get (xs ++ y ∷ []) k ≡ Some x → slice_get xs k ≡ Some x
get_old xs y k x lt e = elim (get_pushed xs y k x e) [
  | inl old ↦ old
  | inr here ↦ absurd (omega (arith, here.0))
]

pub search_open : (p : List (Option Insn)) (marks : List Mark) (path order : List ℕ) (at slot to : ℕ) → IsSearch p marks path order → at + 1 ≡ length path
    → slice_get path at ≡ Some slot → IsEdge p slot to → is_none (insn_at p to) ≡ false → to < length p → mark_at marks to ≡ New
    → IsSearch p (slice_set marks to (Open (length path))) (path ++ to ∷ []) order
search_open p marks path order at slot to h long top edge there inside new =
    let all : length marks ≡ length p = h.all in
    let longer : length (path ++ to ∷ []) ≡ length path + 1 = length_push path to in
    record {
      all = length-set marks to (Open (length path)) ∙ h.all;
      formed = h.formed;
      marked = marked_open marks path order to h.marked (omega arith) new;
      some = omega arith;
      first = λ lt. get_kept path (to ∷ []) 0 0 (h.first (omega arith));
      last = λ none. absurd (omega arith);
      linked = λ k from next e f. elim (get_pushed path to (k + 1) next f) [
        | inl old ↦
            let within : k + 1 < length path = slice_get_within path (k + 1) next old in
            h.linked k from next (get_old path to k from (omega arith) e) old
        | inr here ↦
            let same : k ≡ at = omega (arith, here.0) in
            let lower = get_old path to k from (omega arith) e in
            let one : from ≡ slot = same_Some from slot (sym lower ∙ ap (slice_get path) same ∙ top) in
            rw (one, here.1) edge
      ];
      reached = λ k s e. elim (get_pushed path to k s e) [
        | inl old ↦ h.reached k s old
        | inr here ↦ rw here.1 (path_more p 0 slot to (h.reached at slot top) edge)
      ];
      ordered = h.ordered;
      size = h.size ∙ sym (size_open p marks to (length path) all new);
      there = λ k s e. elim (get_pushed path to k s e) [
        | inl old ↦ h.there k s old
        | inr here ↦ rw here.1 there
      ];
    }

-- ---- and one more in the order

-- an edge leads to no instruction, or to one that is done
abbrev pub LeadsToDone : List (Option Insn) → List Mark → Option ℕ → Type 0
LeadsToDone p marks edge = IfSome (standing p edge) (λ to. IsDone (mark_at marks to))

pub done_number : (m : Mark) → IsDone m → (n : ℕ) × (m ≡ Done n)
done_number New h = absurd h
done_number (Open k) h = absurd h
done_number (Done n) h = (n, refl)

behind_edge : (p : List (Option Insn)) (marks : List Mark) (path order : List ℕ) (edge : Option ℕ) (to : ℕ) (o : Option Insn)
    → insn_at p to ≡ o → AreMarked marks path order
    → LeadsToDone p marks edge → edge ≡ Some to → (o ≡ None) ⊎ ((m : ℕ) × (m < length order) × (slice_get order m ≡ Some to))
behind_edge p marks path order edge to None at h done e = inl refl
behind_edge p marks path order edge to (Some i) at h done e =
    let there : IfSome (standing p (Some to)) (λ (k : ℕ). IsDone (mark_at marks k)) = subst (LeadsToDone p marks) e done in
    let here : IsDone (mark_at marks to) = subst (λ (x : Option Insn). IfSome (if_there x to) (λ (k : ℕ). IsDone (mark_at marks k))) at there in
    let number = done_number (mark_at marks to) here in
    let placed = h.order_slot to number.0 number.1 in
    inr (number.0, slice_get_within order number.0 to placed, placed)

pub behind_more : (p : List (Option Insn)) (order : List ℕ) (n slot new : ℕ) → IsBehind p order n slot → IsBehind p (order ++ new ∷ []) n slot
behind_more p order n slot new h to edge = elim (h to edge) [
  | inl nothing ↦ inl nothing
  | inr m ↦ inr (m.0, m.1, get_kept order (new ∷ []) m.0 to m.2)
]

-- what an instruction leads to has a number before its own
pub behind_number : (p : List (Option Insn)) (order : List ℕ) (n from to : ℕ) → IsBehind p order n from → IsEdge p from to → is_none (insn_at p to) ≡ false
    → (m : ℕ) × (m < n) × (slice_get order m ≡ Some to)
behind_number p order n from to behind edge there = elim (behind to edge) [
  | inl none ↦ absurd (false≢true (sym there ∙ ap is_none none))
  | inr m ↦ m
]

pub is_behind : (p : List (Option Insn)) (marks : List Mark) (path order : List ℕ) (slot : ℕ) → AreMarked marks path order
    → LeadsToDone p marks (edges_at p slot).jump
    → LeadsToDone p marks (edges_at p slot).fall → IsBehind p order (length order) slot
is_behind p marks path order slot h jump fall to edge = elim (edge_cases p slot to edge) [
  | inl falls ↦ behind_edge p marks path order (edges_at p slot).fall to (insn_at p to) refl h fall falls
  | inr jumps ↦ behind_edge p marks path order (edges_at p slot).jump to (insn_at p to) refl h jump jumps
]

pub search_close : (p : List (Option Insn)) (marks : List Mark) (path order : List ℕ) (at slot : ℕ) → IsSearch p marks path order → at + 1 ≡ length path
    → slice_get path at ≡ Some slot → LeadsToDone p marks (edges_at p slot).jump → LeadsToDone p marks (edges_at p slot).fall → slot < length p
    → IsSearch p (slice_set marks slot (Done (length order))) (take at path) (order ++ slot ∷ [])
search_close p marks path order at slot h long top jump fall inside =
    let all : length marks ≡ length p = h.all in
    let shorter : length (take at path) ≡ at = length-take-le at path (omega arith) in
    let longer : length (order ++ slot ∷ []) ≡ length order + 1 = length_push order slot in
    let behind = is_behind p marks path order slot h.marked jump fall in
    record {
      all = length-set marks slot (Done (length order)) ∙ h.all;
      formed = h.formed;
      marked = marked_close marks path order at slot h.marked (omega arith) long top;
      some = omega arith;
      first = λ lt. get_taken at path 0 0 (omega arith) (h.first (omega arith));
      last = λ none n e.
          let zero : at ≡ 0 = omega arith in
          let here : n ≡ length order = omega arith in
          let one : slot ≡ 0 = same_Some slot 0 (sym top ∙ ap (slice_get path) zero ∙ h.first (omega arith)) in
          rw here (get_last order slot ∙ ap Some one);
      linked = λ k from next e f. h.linked k from next (get_from_take at path k from e).1 (get_from_take at path (k + 1) next f).1;
      reached = λ k s e. h.reached k s (get_from_take at path k s e).1;
      ordered = λ n s e. elim (get_pushed order slot n s e) [
        | inl old ↦ let o = h.ordered n s old in (o.0, o.1, behind_more p order n s slot o.2)
        | inr here ↦ rw (here.0, here.1) (h.reached at slot top, h.there at slot top, behind_more p order (length order) slot slot behind)
      ];
      size = slots_of-push p order slot ∙ ap (λ (n : ℕ). n + size_of (insn_at p slot)) h.size
          ∙ sym (size_done p marks slot (length order) all (omega arith) (ap is_done (h.marked.path_mark slot at top)));
      there = λ k s e. h.there k s (get_from_take at path k s e).1;
    }

-- ---- where the search is

insn_inside : (p : List (Option Insn)) (k : ℕ) (o : Option Insn) → insn_at p k ≡ o → is_none o ≡ false → k < length p
insn_inside p k None at there = absurd (cc)
insn_inside p k (Some i) at there = insn_at_within p k i at

pub there_inside : (p : List (Option Insn)) (k : ℕ) → is_none (insn_at p k) ≡ false → k < length p
there_inside p k there = insn_inside p k (insn_at p k) refl there

pub top_long : (path : List ℕ) (slot : ℕ) → slice_get path (length path - 1) ≡ Some slot → length path - 1 + 1 ≡ length path
top_long path slot top = omega (arith, slice_get_within path (length path - 1) slot top)

pub top_inside : (p : List (Option Insn)) (marks : List Mark) (path order : List ℕ) (slot : ℕ) → IsSearch p marks path order
    → slice_get path (length path - 1) ≡ Some slot → slot < length p
top_inside p marks path order slot h top = there_inside p slot (h.there (length path - 1) slot top)

pub some_at : {X : Type 0} (o : Option X) (x : X) (P : X → Type 0) → o ≡ Some x → IfSome o P → P x
some_at {X = X} o x P e h = subst (λ (v : Option X). IfSome v P) e h

-- ---- an edge that leads to an instruction

abbrev pub LeadsThere : List (Option Insn) → ℕ → Option ℕ → Type 0
LeadsThere p slot edge = IfSome edge (λ to. IsEdge p slot to × (is_none (insn_at p to) ≡ false))

there_at : (p : List (Option Insn)) (slot to : ℕ) (o : Option Insn) → insn_at p to ≡ o → IsEdge p slot to → LeadsThere p slot (if_there o to)
there_at p slot to None at edge = tt
there_at p slot to (Some i) at edge = (edge, rw at refl)

standing_leads : (p : List (Option Insn)) (slot : ℕ) (edge : Option ℕ) → ((to : ℕ) → edge ≡ Some to → IsEdge p slot to) → LeadsThere p slot (standing p edge)
standing_leads p slot None h = tt
standing_leads p slot (Some to) h = there_at p slot to (insn_at p to) refl (h to refl)

pub jump_leads : (p : List (Option Insn)) (slot : ℕ) → LeadsThere p slot (standing p (edges_at p slot).jump)
jump_leads p slot = standing_leads p slot (edges_at p slot).jump (jump_is_edge p slot)

pub fall_leads : (p : List (Option Insn)) (slot : ℕ) → LeadsThere p slot (standing p (edges_at p slot).fall)
fall_leads p slot = standing_leads p slot (edges_at p slot).fall (fall_is_edge p slot)

pub edge_inside : (p : List (Option Insn)) (marks : List Mark) (slot : ℕ) (edge : Option ℕ) → length marks ≡ length p
    → LeadsThere p slot edge → IfSome edge (λ to. to < length marks)
edge_inside p marks slot None all h = tt
edge_inside p marks slot (Some to) all h = omega (arith, there_inside p to h.1)

-- ---- the two ways to go on

pub smaller_open : (marks : List Mark) (to k : ℕ) → to < length marks → mark_at marks to ≡ New → left (slice_set marks to (Open k)) < left marks
smaller_open marks to k lt new = let e : left_at (mark_at marks to) ≡ 2 = ap left_at new in omega (arith, left-set marks to (Open k) lt, e)

left_at-some : (m : Mark) → is_done m ≡ false → 0 < left_at m
left_at-some New left = omega arith
left_at-some (Open k) left = omega arith
left_at-some (Done n) left = absurd (cc)

pub smaller_done : (marks : List Mark) (slot n : ℕ) → slot < length marks → is_done (mark_at marks slot) ≡ false
    → left (slice_set marks slot (Done n)) < left marks
smaller_done marks slot n lt before = omega (arith, left-set marks slot (Done n) lt, left_at-some (mark_at marks slot) before)

pub follow_refused : (p : List (Option Insn)) (marks : List Mark) (path order : List ℕ) (slot : ℕ) (edge : Option ℕ) (fault : LayoutFault)
    → IsSearch p marks path order
    → slice_get path (length path - 1) ≡ Some slot → LeadsThere p slot edge
    → ((to : ℕ) × (k : ℕ) × (edge ≡ Some to) × (mark_at marks to ≡ Open k) × (fault ≡ Loop slot to)) → IsLayoutFault p fault
follow_refused p marks path order slot edge fault h top leads c =
    let there = some_at edge c.0 (λ to. IsEdge p slot to × (is_none (insn_at p to) ≡ false)) c.2 leads in
    rw c.4 (loop_closed p marks path order (length path - 1) slot c.0 c.1 h (top_long path slot top) top there.0 c.3)

pub follow_enters : (p : List (Option Insn)) (marks : List Mark) (path order : List ℕ) (slot : ℕ) (edge : Option ℕ) (to : ℕ) → IsSearch p marks path order
    → slice_get path (length path - 1) ≡ Some slot → LeadsThere p slot edge → edge ≡ Some to → mark_at marks to ≡ New
    → IsSearch p (slice_set marks to (Open (length path))) (path ++ to ∷ []) order
follow_enters p marks path order slot edge to h top leads e new =
    let there = some_at edge to (λ k. IsEdge p slot k × (is_none (insn_at p k) ≡ false)) e leads in
    search_open p marks path order (length path - 1) slot to h (top_long path slot top) top there.0 there.1 (there_inside p to there.1) new

-- ---- the search at its beginning

new_in : (n k : ℕ) → mark_at (replicate n New) k ≡ New
new_in n k = elim (cases_lt k n) [
  | inl lt ↦ get_or-replicate n k New New lt
  | inr le ↦ get_or_past (replicate n New) k New (omega (arith, length-replicate n New))
]

pub new_at : (n : ℕ) (marks : List Mark) (k : ℕ) → marks ≡ replicate n New → mark_at marks k ≡ New
new_at n marks k fresh = rw fresh (new_in n k)

pub unmarked : (n : ℕ) (marks : List Mark) → marks ≡ replicate n New → AreMarked marks [] []
unmarked n marks fresh = record {
  path_slot = λ slot k e. absurd (new_open k (sym e ∙ new_at n marks slot fresh));
  path_mark = λ slot k e. absurd (none-some slot e);
  order_slot = λ slot k e. absurd (new_done k (sym e ∙ new_at n marks slot fresh));
  order_mark = λ slot k e. absurd (none-some slot e);
}

past : (k to : ℕ) → slice_get (0 ∷ []) (k + 1) ≡ Some to → ⊥
past k to e = let within : k + 1 < 1 = slice_get_within {A = ℕ} (0 ∷ []) (k + 1) to e in omega arith

zero_at : (k slot : ℕ) → slice_get (0 ∷ []) k ≡ Some slot → 0 ≡ slot
zero_at zero slot e = same_Some 0 slot e
zero_at (suc k) slot e = absurd (none-some slot e)

pub search_begins : (p : List (Option Insn)) (marks : List Mark) → marks ≡ replicate (length p) New → IsWellFormed p → is_none (insn_at p 0) ≡ false
    → IsSearch p (slice_set marks 0 (Open 0)) (0 ∷ []) []
search_begins p marks fresh formed there =
    let inside : 0 < length p = there_inside p 0 there in
    let len : length marks ≡ length p = ap length fresh ∙ length-replicate (length p) New in
    record {
      all = length-set marks 0 (Open 0) ∙ len;
      formed = formed;
      marked = marked_open marks [] [] 0 (unmarked (length p) marks fresh) (omega arith) (new_at (length p) marks 0 fresh);
      some = omega arith;
      first = λ lt. refl;
      last = λ none. absurd (omega arith);
      linked = λ k from to e f. absurd (past k to f);
      reached = λ k slot e. subst (λ (x : ℕ). IsReached p x) (zero_at k slot e) (path_none p 0);
      ordered = λ n slot e. absurd (none-some slot e);
      size = sym (size_open p marks 0 0 len (new_at (length p) marks 0 fresh) ∙ (rw fresh (none_done p (length p))));
      there = λ k slot e. subst (λ (x : ℕ). is_none (insn_at p x) ≡ false) (zero_at k slot e) there;
    }

pub search_ends : (p : List (Option Insn)) (marks : List Mark) (path order : List ℕ) → IsSearch p marks path order
    → slice_get path (length path - 1) ≡ None → IsSearch p marks [] order
search_ends p marks [] order h none = h
search_ends p marks (slot ∷ path) order h none =
    let top = found (slot ∷ path) (length path) (omega arith) in
    let at : length (slot ∷ path) - 1 ≡ length path = omega arith in
    absurd (none-some top.0 (sym none ∙ ap (slice_get (slot ∷ path)) at ∙ top.1))

pub done_inside : (marks : List Mark) (slot n : ℕ) → mark_at marks slot ≡ Done n → slot < length marks
done_inside marks slot n e = elim (cases_lt slot (length marks)) [
  | inl lt ↦ lt
  | inr le ↦ absurd (new_done n (sym e ∙ get_or_past marks slot New le))
]
