-- One instruction more in the order of the new program.
use Rattle.std.proofs.Common.{◌≡◌, ◌≢◌, ℕ, zero, suc, ◌+◌, ◌-◌, ◌<◌, ◌≤◌, List, [], ◌∷◌, ◌++◌, length, replicate, Option, Some, None, Bool, true}
use Rattle.std.proofs.Common.{false, refl, sym, ap, ◌∙◌, subst, arith, inl, inr, ◌⊎◌}
use Rattle.std.specs.Prelude.{slice_get, slice_set, is_none, IfSome, ◌&&◌, not}
use Rattle.std.specs.List.{flat_map}
use Rattle.std.proofs.lemmas.Option.{none-some, same_Some, slice_get_within, cond_some}
use Rattle.std.proofs.lemmas.Bool.{cases_Bool, cases_eq, cases_lt, and_cases, and_from, false≢true}
use Rattle.std.proofs.lemmas.List.{get_or-set_same, get_or-set_other, length-set, length_push, length-replicate}
use Rattle.ebpf_insn.specs.declared.insn.Insn.{Insn}
use Rattle.ebpf_insn.specs.declared.insn.Insn.TheVariants as insn
use Rattle.ebpf_insn.specs.Program.{insn_at, placed, instructions, slots_in}
use Rattle.ebpf_insn.specs.Encoding.{IsWellFormed}
use Rattle.ebpf_flow.specs.Edges.{falls, fall_of, edges_at, edges_of}
use Rattle.ebpf_layout.specs.declared.mark.Mark.{Mark}
use Rattle.ebpf_layout.specs.declared.mark.Mark.TheVariants.{New, Open, Done}
use Rattle.ebpf_layout.specs.Paths.{IsEdge, IsReached}
use Rattle.ebpf_layout.specs.Search.{size_of, done_slots, mark_at, if_there, standing, IsDone, is_done, IsBehind, AreMarked, IsOrder}
use Rattle.ebpf_layout.specs.Placing.{is_placed, is_left, is_free, is_ready, GoesNext, Waits, AreNeighbours, IsPlacing}
use Rattle.ebpf_layout.proofs.Lists.{get_kept, get_last, get_pushed, set_cases}
use Rattle.ebpf_layout.proofs.PathLemmas.{fall_is_edge, jump_is_edge}
use Rattle.ebpf_layout.proofs.Searching.{slots_of-push, size_done, none_done, open_done, done_same, unset, found, behind_more, behind_number}
use Rattle.ebpf_layout.proofs.Searching.{is_behind, there_inside, new_at, unmarked}
use Rattle.ebpf_layout.proofs.Reaching.{reached_in, last_in}

-- ---- tests

both : (a b : Bool) → (a && b) ≡ true → (a ≡ true) × (b ≡ true)
both true b e = (refl, e)
both false b e = absurd (cc)

and_false : (b : Bool) → (b && false) ≡ false
and_false true = refl
and_false false = refl

not_true : (b : Bool) → not b ≡ true → b ≡ false
not_true true e = absurd (cc)
not_true false e = refl

done_number : (m : Mark) → is_done m ≡ true → (n : ℕ) × (m ≡ Done n)
done_number New e = absurd (cc)
done_number (Open k) e = absurd (cc)
done_number (Done n) e = (n, refl)

is_done-in : (m : Mark) → is_done m ≡ true → IsDone m
is_done-in New e = absurd (cc)
is_done-in (Open k) e = absurd (cc)
is_done-in (Done n) e = tt

-- what is in an order isn't left to be placed
not_left : (marks : List Mark) (path order : List ℕ) (slot n : ℕ) → AreMarked marks path order
    → is_done (mark_at marks slot) ≡ false → slice_get order n ≡ Some slot → ⊥
not_left marks path order slot n h left e = false≢true (sym left ∙ ap is_done (h.order_mark slot n e))

done_in : (marks : List Mark) (path order : List ℕ) (slot n : ℕ) → AreMarked marks path order → slice_get order n ≡ Some slot
    → is_done (mark_at marks slot) ≡ true
done_in marks path order slot n h e = ap is_done (h.order_mark slot n e)

placed_in : (marks : List Mark) (edge : Option ℕ) → is_placed marks edge ≡ true → IfSome edge (λ to. IsDone (mark_at marks to))
placed_in marks None e = tt
placed_in marks (Some to) e = is_done-in (mark_at marks to) e

-- what the test of a slot says
pub record MayGo (p : List (Option Insn)) (found marks : List Mark) (slot : ℕ) : Type 0 where
  pub there : is_done (mark_at found slot) ≡ true
  pub left : is_done (mark_at marks slot) ≡ false
  pub jump : is_placed marks (standing p (edges_at p slot).jump) ≡ true
  pub fall : is_placed marks (standing p (edges_at p slot).fall) ≡ true

pub may_go : (p : List (Option Insn)) (found marks : List Mark) (slot : ℕ) → is_ready p found marks slot ≡ true → MayGo p found marks slot
may_go p found marks slot e =
    let parts = both (is_left found marks slot) (is_free p marks slot) e in
    let left = both (is_done (mark_at found slot)) (not (is_done (mark_at marks slot))) parts.0 in
    let free = both (is_placed marks (standing p (edges_at p slot).jump)) (is_placed marks (standing p (edges_at p slot).fall)) parts.1 in
    record {
      there = left.0;
      left = not_true (is_done (mark_at marks slot)) left.1;
      jump = free.0;
      fall = free.1;
    }

is_left-from : (found marks : List Mark) (slot : ℕ) → is_done (mark_at found slot) ≡ true → is_done (mark_at marks slot) ≡ false
    → is_left found marks slot ≡ true
is_left-from found marks slot there left = and_from (is_done (mark_at found slot)) (not (is_done (mark_at marks slot))) there (ap not left)

ready_from : (p : List (Option Insn)) (found marks : List Mark) (slot : ℕ) → MayGo p found marks slot → is_ready p found marks slot ≡ true
ready_from p found marks slot m =
    and_from (is_left found marks slot) (is_free p marks slot) (is_left-from found marks slot m.there m.left)
    (and_from (is_placed marks (standing p (edges_at p slot).jump)) (is_placed marks (standing p (edges_at p slot).fall)) m.jump m.fall)

-- what isn't left isn't when a slot more is placed
pub left_none : (found marks : List Mark) (slot n k : ℕ) → slot < length marks → is_left found marks k ≡ false
    → is_left found (slice_set marks slot (Done n)) k ≡ false
left_none found marks slot n k lt gone = elim (cases_eq k slot) [
  | inl same ↦
      let here : mark_at (slice_set marks slot (Done n)) k ≡ Done n = rw same (get_or-set_same marks slot (Done n) New lt) in
      ap (λ (m : Mark). is_done (mark_at found k) && not (is_done m)) here ∙ and_false (is_done (mark_at found k))
  | inr other ↦
      let here : mark_at (slice_set marks slot (Done n)) k ≡ mark_at marks k = get_or-set_other marks slot k (Done n) New other in
      ap (λ (m : Mark). is_done (mark_at found k) && not (is_done m)) here ∙ gone
]

-- ---- an instruction more

marked_place : (marks : List Mark) (order : List ℕ) (slot : ℕ) → AreMarked marks [] order → slot < length marks → is_done (mark_at marks slot) ≡ false
    → AreMarked (slice_set marks slot (Done (length order))) [] (order ++ slot ∷ [])
marked_place marks order slot h lt left = record {
  path_slot = λ s k e. elim (set_cases marks slot (Done (length order)) New s (Open k) lt e) [
    | inl here ↦ absurd (open_done k (length order) (sym here.1))
    | inr other ↦ h.path_slot s k other.1
  ];
  path_mark = λ s k e. absurd (none-some s e);
  order_slot = λ s n e. elim (set_cases marks slot (Done (length order)) New s (Done n) lt e) [
    | inl here ↦ let number : n ≡ length order = sym (done_same (length order) n here.1) in rw (number, here.0) (get_last order slot)
    | inr other ↦ get_kept order (slot ∷ []) n s (h.order_slot s n other.1)
  ];
  order_mark = λ s n e. elim (get_pushed order slot n s e) [
    | inl old ↦ unset marks slot s (Done (length order)) (Done n)
        (λ same. not_left marks [] order slot n h left (subst (λ (x : ℕ). slice_get order n ≡ Some x) same old)) (h.order_mark s n old)
    | inr here ↦ rw (here.0, here.1) (get_or-set_same marks slot (Done (length order)) New lt)
  ];
}

waits_more : (p : List (Option Insn)) (order : List ℕ) (n from slot : ℕ) → n < length order → Waits p order n from → Waits p (order ++ slot ∷ []) n from
waits_more p order n from slot lt w = (
  w.0,
  w.1,
  w.2,
  λ k e. elim (get_pushed order slot k w.0 e) [
    | inl old ↦ w.3 k old
    | inr here ↦ omega (arith, here.0)
  ],
)

falls_from : (p : List (Option Insn)) (from to : ℕ) (o : Option Insn) → insn_at p from ≡ o → (edges_at p from).fall ≡ Some to → o ≡ None → ⊥
falls_from p from to o at falls none =
    let here : (edges_of None from).fall ≡ Some to = subst (λ (x : Option Insn). (edges_of x from).fall ≡ Some to) (at ∙ none) falls in
    none-some to here

-- where an instruction is, an edge there is placed or not as the slot is
standing_at : (p : List (Option Insn)) (to : ℕ) (o : Option Insn) → insn_at p to ≡ o → is_none o ≡ false → standing p (Some to) ≡ Some to
standing_at p to None at there = absurd (false≢true (sym there))
standing_at p to (Some i) at there = ap (λ (o : Option Insn). if_there o to) at

-- an edge that isn't placed leads to an instruction that isn't
abbrev IsOpen : List (Option Insn) → List Mark → Option ℕ → Type 0
IsOpen p marks edge = (to : ℕ) × (edge ≡ Some to) × (is_none (insn_at p to) ≡ false) × (is_done (mark_at marks to) ≡ false)

open_there : (p : List (Option Insn)) (marks : List Mark) (to : ℕ) (o : Option Insn) → insn_at p to ≡ o
    → is_placed marks (if_there o to) ≡ false → IsOpen p marks (Some to)
open_there p marks to None at e = absurd (false≢true (sym e))
open_there p marks to (Some i) at e = (to, refl, ap is_none at, e)

open_edge : (p : List (Option Insn)) (marks : List Mark) (edge : Option ℕ) → is_placed marks (standing p edge) ≡ false → IsOpen p marks edge
open_edge p marks None e = absurd (false≢true (sym e))
open_edge p marks (Some to) e = open_there p marks to (insn_at p to) refl e

module _ (p : List (Option Insn)) (search : List Mark) (old : List ℕ) (marks : List Mark) (order : List ℕ) (o : IsOrder p search old)
    (h : IsPlacing p marks order) where
  -- what falls to something placed and may not go jumps to something that isn't placed
  unready : (n to from : ℕ) → slice_get order n ≡ Some to → (edges_at p from).fall ≡ Some to → is_done (mark_at marks from) ≡ false
      → IsReached p from → is_ready p search marks from ≡ false
      → IsOpen p marks (edges_at p from).jump
  unready n to from e falls left reached wrong =
      let there : is_done (mark_at search from) ≡ true = elim (reached_in p search old from o reached) [
        | inl none ↦ absurd (falls_from p from to (insn_at p from) refl falls none)
        | inr in_old ↦ done_in search [] old from in_old.0 o.marked in_old.1
      ] in
      let lands : standing p (edges_at p from).fall ≡ Some to = ap (standing p) falls ∙ standing_at p to (insn_at p to) refl (h.ordered n to e).1 in
      let fall : is_placed marks (standing p (edges_at p from).fall) ≡ true = ap (is_placed marks) lands ∙ done_in marks [] order to n h.marked e in
      elim (and_cases (is_left search marks from) (is_free p marks from) wrong) [
        | inl gone ↦ absurd (false≢true (sym gone ∙ is_left-from search marks from there left))
        | inr held ↦ elim (and_cases (is_placed marks (standing p (edges_at p from).jump)) (is_placed marks (standing p (edges_at p from).fall)) held) [
          | inl jump ↦ open_edge p marks (edges_at p from).jump jump
          | inr other ↦ absurd (false≢true (sym other ∙ fall))
        ]
      ]

  -- an edge to something earlier in the search's order is placed, if that is
  led_placed : (n slot : ℕ) (edge : Option ℕ) → slice_get old n ≡ Some slot → ((m s : ℕ) → m < n → slice_get old m ≡ Some s → is_done (mark_at marks s) ≡ true)
      → ((to : ℕ) → edge ≡ Some to → IsEdge p slot to) → is_placed marks (standing p edge) ≡ true
  led_placed n slot None at below leads = refl
  led_placed n slot (Some to) at below leads = elim ((o.ordered n slot at).2 to (leads to refl)) [
    | inl none ↦ ap (λ (x : Option Insn). is_placed marks (if_there x to)) none
    | inr m ↦
        let there = (o.ordered m.0 to m.2).1 in
        ap (is_placed marks) (standing_at p to (insn_at p to) refl there) ∙ below m.0 to m.1 m.2
  ]

  -- the first of the search's order that isn't placed may go
  ready_below : (n : ℕ) → n ≤ length old
      → ((m s : ℕ) → m < n → slice_get old m ≡ Some s → is_done (mark_at marks s) ≡ true) ⊎ ((k : ℕ) × (k < length p) × (is_ready p search marks k ≡ true))
  ready_below zero le = inl (λ m s lt e. absurd (omega arith))
  ready_below (suc n) le = elim (ready_below n (omega arith)) [
    | inr some ↦ inr some
    | inl below ↦
        let s = found old n (omega arith) in
        elim (cases_Bool (is_done (mark_at marks s.0))) [
          | inr left ↦ inr (
            s.0,
            there_inside p s.0 (o.ordered n s.0 s.1).1,
            ready_from p search marks s.0 (record {
              there = done_in search [] old s.0 n o.marked s.1;
              left = left;
              jump = led_placed n s.0 (edges_at p s.0).jump s.1 below (jump_is_edge p s.0);
              fall = led_placed n s.0 (edges_at p s.0).fall s.1 below (fall_is_edge p s.0);
            }),
          )
          | inl done ↦ inl (λ m x lt e. elim (cases_lt m n) [
            | inl lower ↦ below m x lower e
            | inr here ↦
                let same : m ≡ n = omega arith in
                let one : x ≡ s.0 = same_Some x s.0 (sym e ∙ ap (slice_get old) same ∙ s.1) in
                ap (λ (y : ℕ). is_done (mark_at marks y)) one ∙ done
          ])
        ]
  ]

  pub some_ready : is_done (mark_at marks 0) ≡ false → (k : ℕ) × (k < length p) × (is_ready p search marks k ≡ true)
  some_ready left = elim (ready_below (length old) (omega arith)) [
    | inr some ↦ some
    | inl all ↦
        let end = last_in p search old o in
        absurd (false≢true (sym left ∙ all end.0 0 (slice_get_within old end.0 0 end.1) end.1))
  ]

-- one that was found is reached, and is an instruction
was_found : (p : List (Option Insn)) (search : List Mark) (old : List ℕ) (slot : ℕ) → IsOrder p search old
    → is_done (mark_at search slot) ≡ true → IsReached p slot × (is_none (insn_at p slot) ≡ false)
was_found p search old slot o there =
    let number = done_number (mark_at search slot) there in
    let at = o.ordered number.0 slot (o.marked.order_slot slot number.0 number.1) in
    (at.0, at.1)

module _ (p : List (Option Insn)) (search : List Mark) (old : List ℕ) (marks : List Mark) (order : List ℕ) (slot : ℕ) (o : IsOrder p search old)
    (h : IsPlacing p marks order) (next : GoesNext p search marks order slot) where
  left : is_done (mark_at marks slot) ≡ false
  left = (may_go p search marks slot next.ready).left

  at_slot : IsReached p slot × (is_none (insn_at p slot) ≡ false)
  at_slot = was_found p search old slot o (may_go p search marks slot next.ready).there

  pub slot_inside : slot < length p
  slot_inside = there_inside p slot at_slot.1

  behind : IsBehind p order (length order) slot
  behind =
      let m = may_go p search marks slot next.ready in
      is_behind p marks [] order slot h.marked (placed_in marks (standing p (edges_at p slot).jump) m.jump)
      (placed_in marks (standing p (edges_at p slot).fall) m.fall)

  there_in : (n to : ℕ) → slice_get (order ++ slot ∷ []) n ≡ Some to → is_none (insn_at p to) ≡ false
  there_in n to e = elim (get_pushed order slot n to e) [
    | inl old ↦ (h.ordered n to old).1
    | inr here ↦ rw here.1 at_slot.1
  ]

  -- nothing that is placed falls to the slot
  no_fall : (m from to : ℕ) → IsBehind p order m from → (edges_at p from).fall ≡ Some to → to ≡ slot → ⊥
  no_fall m from to after falls same =
      let there : is_none (insn_at p to) ≡ false = rw same at_slot.1 in
      let k = behind_number p order m from to after (fall_is_edge p from to falls) there in
      not_left marks [] order slot k.0 h.marked left (subst (λ (x : ℕ). slice_get order k.0 ≡ Some x) same k.2)

  neighbours_more : AreNeighbours p (order ++ slot ∷ [])
  neighbours_more n m to from e f falls = elim (get_pushed order slot m from f) [
    | inl before ↦ elim (get_pushed order slot n to e) [
      | inl old ↦ elim (h.neighbours n m to from old before falls) [
        | inl one ↦ inl one
        | inr w ↦ inr (waits_more p order n from slot (slice_get_within order n to old) w)
      ]
      | inr here ↦ absurd (no_fall m from to (h.ordered m from before).2 falls here.1)
    ]
    | inr now ↦
        let falls_now : (edges_at p slot).fall ≡ Some to = subst (λ (x : ℕ). (edges_at p x).fall ≡ Some to) now.1 falls in
        elim (get_pushed order slot n to e) [
          | inl old ↦ elim (cases_lt (n + 1) (length order)) [
            | inl lt ↦ inr (rw now.1 (waits_more p order n slot slot (slice_get_within order n to old) (h.waits n to slot old lt falls_now left at_slot.0)))
            | inr le ↦ inl (omega (arith, now.0, slice_get_within order n to old))
          ]
          | inr here ↦ absurd (no_fall (length order) slot to behind falls_now here.1)
        ]
  ]

  other : (from : ℕ) → is_done (mark_at (slice_set marks slot (Done (length order))) from) ≡ false → (from ≢ slot) × (is_done (mark_at marks from) ≡ false)
  other from e =
      let ne : from ≢ slot =
      λ same. false≢true (sym e ∙ (rw same (ap is_done (get_or-set_same marks slot (Done (length order)) New (omega (arith, slot_inside, h.all)))))) in
      (ne, ap is_done (sym (get_or-set_other marks slot from (Done (length order)) New ne)) ∙ e)

  waits_now : (n to from : ℕ) → slice_get order n ≡ Some to → n + 1 ≡ length order → (edges_at p from).fall ≡ Some to → from ≢ slot
      → is_done (mark_at marks from) ≡ false → IsReached p from
      → Waits p (order ++ slot ∷ []) n from
  waits_now n to from e last falls ne before reached = elim (cases_Bool (is_ready p search marks from)) [
    | inl ready ↦
        let at : length order - 1 ≡ n = omega arith in
        absurd (ne (next.falls to from (rw at e) falls ready))
    | inr wrong ↦
        let w = unready p search old marks order o h n to from e falls before reached wrong in (
          w.0,
          w.1,
          w.2,
          λ k f. elim (get_pushed order slot k w.0 f) [
            | inl old ↦ absurd (not_left marks [] order w.0 k h.marked w.3 old)
            | inr here ↦ omega (arith, here.0)
          ],
        )
  ]

  waits_next : (n to from : ℕ) → slice_get (order ++ slot ∷ []) n ≡ Some to → n + 1 < length (order ++ slot ∷ []) → (edges_at p from).fall ≡ Some to
      → is_done (mark_at (slice_set marks slot (Done (length order))) from) ≡ false → IsReached p from → Waits p (order ++ slot ∷ []) n from
  waits_next n to from e lt falls after reached =
      let long : length (order ++ slot ∷ []) ≡ length order + 1 = length_push order slot in
      let before = other from after in
      elim (get_pushed order slot n to e) [
        | inr here ↦ absurd (omega (arith, here.0))
        | inl old ↦ elim (cases_lt (n + 1) (length order)) [
          | inl lower ↦ waits_more p order n from slot (slice_get_within order n to old) (h.waits n to from old lower falls before.1 reached)
          | inr le ↦ waits_now n to from old (omega arith) falls before.0 before.1 reached
        ]
      ]

  pub placed_more : IsPlacing p (slice_set marks slot (Done (length order))) (order ++ slot ∷ [])
  placed_more = record {
    all = length-set marks slot (Done (length order)) ∙ h.all;
    formed = h.formed;
    marked = marked_place marks order slot h.marked (omega (arith, slot_inside, h.all)) left;
    ordered = λ n s e. elim (get_pushed order slot n s e) [
      | inl old ↦ let k = h.ordered n s old in (k.0, k.1, behind_more p order n s slot k.2)
      | inr here ↦ rw (here.0, here.1) (at_slot.0, at_slot.1, behind_more p order (length order) slot slot behind)
    ];
    size =
        slots_of-push p order slot ∙ ap (λ (n : ℕ). n + size_of (insn_at p slot)) h.size ∙ sym (size_done p marks slot (length order) h.all slot_inside left);
    neighbours = neighbours_more;
    waits = waits_next;
  }

  -- another slot is left as it was
  pub still_left : (k : ℕ) → k ≢ slot → is_done (mark_at marks k) ≡ false → is_done (mark_at (slice_set marks slot (Done (length order))) k) ≡ false
  still_left k ne e = ap is_done (get_or-set_other marks slot k (Done (length order)) New ne) ∙ e

-- ---- the beginning and the end

pub none_placed : (p : List (Option Insn)) (marks : List Mark) → marks ≡ replicate (length p) New → IsWellFormed p → IsPlacing p marks []
none_placed p marks fresh formed = record {
  all = ap length fresh ∙ length-replicate (length p) New;
  formed = formed;
  marked = unmarked (length p) marks fresh;
  ordered = λ n slot e. absurd (none-some slot e);
  size = sym (ap (done_slots p) fresh ∙ none_done p (length p));
  neighbours = λ n m to from e f falls. absurd (none-some to e);
  waits = λ n to from e lt falls left reached. absurd (none-some to e);
}

pub zero_left : (n : ℕ) (marks : List Mark) → marks ≡ replicate n New → is_done (mark_at marks 0) ≡ false
zero_left n marks fresh = ap is_done (new_at n marks 0 fresh)

pub order_inside : (p : List (Option Insn)) (marks : List Mark) (order : List ℕ) (n slot : ℕ) → IsPlacing p marks order
    → slice_get order n ≡ Some slot → slot < length p
order_inside p marks order n slot h e = there_inside p slot (h.ordered n slot e).1

-- a limit that is raised
pub some_below : (o : Option ℕ) (a b : ℕ) → a ≤ b → IfSome o (λ k. k < a) → IfSome o (λ k. k < b)
some_below None a b le h = tt
some_below (Some k) a b le h = omega arith

-- an order is whole once slot 0 is placed
pub all_placed : (p : List (Option Insn)) (marks : List Mark) (order : List ℕ) (slot : ℕ) → slot ≡ 0
    → IsPlacing p marks (order ++ slot ∷ []) → IsOrder p marks (order ++ slot ∷ [])
all_placed p marks order slot first h =
    let long : length (order ++ slot ∷ []) ≡ length order + 1 = length_push order slot in
    record {
      all = h.all;
      formed = h.formed;
      marked = h.marked;
      some = omega arith;
      first = λ lt. absurd (omega arith);
      last = λ none n e. let at : n ≡ length order = omega arith in rw at (get_last order slot ∙ ap Some first);
      linked = λ k from to e f. absurd (none-some from e);
      reached = λ k slot e. absurd (none-some slot e);
      ordered = h.ordered;
      size = h.size;
      there = λ k slot e. absurd (none-some slot e);
    }

-- ---- the instruction that comes right before a slot

second_of : (j i : Insn) (p : List (Option Insn)) → slots_in j ≡ 1 → insn_at (Some j ∷ p) 0 ≡ Some i → slots_in i ≡ 2 → ⊥
second_of j i p one at two = let same : j ≡ i = cc in let wide : slots_in j ≡ 2 = ap slots_in same ∙ two in omega arith

-- what comes after a wide instruction is its second half
second_half : (is : List Insn) (k : ℕ) (i : Insn) → insn_at (flat_map placed is) k ≡ Some i → slots_in i ≡ 2 → insn_at (flat_map placed is) (k + 1) ≡ None
second_half [] k i at two = absurd (none-some i at)
second_half (insn.Wide dst value ∷ is) zero i at two = refl
second_half (insn.Wide dst value ∷ is) (suc zero) i at two = absurd (none-some i at)
second_half (insn.Wide dst value ∷ is) (suc (suc k)) i at two = let e : suc (suc k) + 1 ≡ suc (suc (k + 1)) = omega arith in rw e (second_half is k i at two)
second_half (j ∷ is) zero i at two = absurd (second_of j i (flat_map placed is) refl at two)
second_half (j ∷ is) (suc k) i at two = let e : suc k + 1 ≡ suc (k + 1) = omega arith in rw e (second_half is k i at two)

size_cases : (i : Insn) → (slots_in i ≡ 1) ⊎ (slots_in i ≡ 2)
size_cases (insn.Wide dst value) = inr refl
size_cases _ = inl refl

-- what falls to a slot is an instruction of one slot right before it, or of two
abbrev FallsInto : List (Option Insn) → ℕ → ℕ → Type 0
FallsInto p from to = ((from + 1 ≡ to) × (is_none (insn_at p from) ≡ false)) ⊎ ((from + 2 ≡ to) × (insn_at p (from + 1) ≡ None))

falls_at : (p : List (Option Insn)) (from to : ℕ) (i : Insn) → IsWellFormed p → insn_at p from ≡ Some i → fall_of i from ≡ Some to → FallsInto p from to
falls_at p from to i formed at falls_to =
    let sum = (cond_some (falls i) (from + slots_in i) to falls_to).1 in
    elim (size_cases i) [
      | inl one ↦ inl (omega arith, ap is_none at)
      | inr two ↦
          let there : insn_at (flat_map placed (instructions p)) from ≡ Some i = subst (λ (q : List (Option Insn)). insn_at q from ≡ Some i) formed.placed at in
          inr (omega arith, subst (λ (q : List (Option Insn)). insn_at q (from + 1) ≡ None) (sym formed.placed) (second_half (instructions p) from i there two))
    ]

falls_into : (p : List (Option Insn)) (from to : ℕ) (o : Option Insn) → IsWellFormed p → insn_at p from ≡ o
    → (edges_at p from).fall ≡ Some to → FallsInto p from to
falls_into p from to None formed at falls_to = absurd (falls_from p from to None at falls_to refl)
falls_into p from to (Some i) formed at falls_to = falls_at p from to i formed at (subst (λ (x : Option Insn). (edges_of x from).fall ≡ Some to) at falls_to)

pub before_one : (p : List (Option Insn)) (from to before : ℕ) → IsWellFormed p → (edges_at p from).fall ≡ Some to → before + 1 ≡ to
    → is_none (insn_at p before) ≡ false → before ≡ from
before_one p from to before formed falls_to at there = elim (falls_into p from to (insn_at p from) formed refl falls_to) [
  | inl one ↦ omega (arith, one.0)
  | inr two ↦ let same : before ≡ from + 1 =
      omega (arith, two.0) in absurd (false≢true (sym there ∙ ap (λ (k : ℕ). is_none (insn_at p k)) same ∙ ap is_none two.1))
]
