-- One instruction more before what is written.
use Rattle.std.proofs.Common.{◌≡◌, ◌≢◌, ℕ, ◌+◌, ◌<◌, ◌≤◌, ℤ, pos, List, [], ◌∷◌, ◌++◌, length, get_or, Option, Some, None, false, eqb, refl, sym}
use Rattle.std.proofs.Common.{ap, ◌∙◌, subst, arith, inl, inr, ◌⊎◌}
use Rattle.std.specs.Prelude.{slice_get}
use Rattle.std.proofs.lemmas.Bool.{cases_Bool, eqb-true, eqb-false}
use Rattle.std.proofs.lemmas.Option.{none-some, same_Some, slice_get_within, get_or_from_slice_get}
use Rattle.std.proofs.lemmas.List.{append-nil, length-append, length_push, get_or_read}
use Rattle.ebpf_insn.specs.declared.insn.Insn.{Insn}
use Rattle.ebpf_insn.specs.declared.insn.Insn.TheVariants as insn
use Rattle.ebpf_insn.specs.Program.{insn_at, slots_in}
use Rattle.ebpf_flow.specs.Edges.{displacement_of, jump_of, fall_of}
use Rattle.ebpf_layout.specs.declared.mark.Mark.{Mark}
use Rattle.ebpf_layout.specs.declared.mark.Mark.TheVariants.{New, Done}
use Rattle.ebpf_layout.specs.Layout.{moved}
use Rattle.ebpf_layout.specs.Search.{mark_at, IsOrder}
use Rattle.ebpf_layout.specs.Placing.{AreNeighbours}
use Rattle.ebpf_layout.specs.Writing.{half_of, with_jump, HasPlace, IsWayTo, LeadsOn, IsMovedTo, Writes, StandsAt, JumpsTo, FallsRight, IsWritten}
use Rattle.ebpf_layout.specs.Writing.{IsAddedAt, AreWritten}
use Rattle.ebpf_layout.proofs.Lists.{get_kept, get_last, get_pushed}
use Rattle.ebpf_layout.proofs.PathLemmas.{jump_is_edge, fall_edge, jump_of_edge}
use Rattle.ebpf_layout.proofs.Searching.{done_inside, done_same, found, behind_number}

-- ---- an instruction with another displacement

pub slots_in-moved : (i : Insn) (z : ℤ) → slots_in (moved i z) ≡ slots_in i
slots_in-moved (insn.Jump offset) z = refl
slots_in-moved (insn.JumpFar offset) z = refl
slots_in-moved (insn.Branch width condition left right offset) z = refl
slots_in-moved _ z = refl

pub moved_none : (i : Insn) (z : ℤ) → displacement_of i ≡ None → moved i z ≡ i
moved_none (insn.Jump offset) z e = absurd (none-some offset (sym e))
moved_none (insn.JumpFar offset) z e = absurd (none-some offset (sym e))
moved_none (insn.Branch width condition left right offset) z e = absurd (none-some offset (sym e))
moved_none _ z e = refl

one_slot : (i : Insn) (slot to : ℕ) → jump_of i slot ≡ Some to → slots_in i ≡ 1
one_slot (insn.Wide dst value) slot to e = absurd (none-some to e)
one_slot _ slot to e = refl

-- ---- places

pub number_read : (marks : List Mark) (places : List ℕ) (slot place : ℕ) (mark : Mark) (number : ℕ)
    → HasPlace marks places slot place → mark ≡ get_or marks slot mark → mark ≡ Done number
    → number < length places
number_read marks places slot place mark number h read done =
    let inside = done_inside marks slot h.number h.done in
    let here : mark ≡ mark_at marks slot = get_or_read marks slot mark inside read New in
    let same : number ≡ h.number = done_same number h.number (sym done ∙ here ∙ h.done) in
    rw same (slice_get_within places h.number place h.placed)

pub place_read : (marks : List Mark) (places : List ℕ) (slot place : ℕ) (mark : Mark) (number value : ℕ)
    → HasPlace marks places slot place → mark ≡ get_or marks slot mark
    → mark ≡ Done number → value ≡ get_or places number value → value ≡ place
place_read marks places slot place mark number value h read done found =
    let inside = done_inside marks slot h.number h.done in
    let here : mark ≡ mark_at marks slot = get_or_read marks slot mark inside read New in
    let same : number ≡ h.number = done_same number h.number (sym done ∙ here ∙ h.done) in
    found ∙ ap (λ (n : ℕ). get_or places n value) same ∙ get_or_from_slice_get places h.number place value h.placed

-- what the code holds stays where it is
abbrev pub Keeps : List (Option Insn) → List (Option Insn) → Type 0
Keeps code new = (k : ℕ) (o : Option Insn) → slice_get code k ≡ Some o → slice_get new k ≡ Some o

stands_more : (order places : List ℕ) (place slot at : ℕ) → StandsAt order places slot at → StandsAt order (places ++ place ∷ []) slot at
stands_more order places place slot at h = record {
  number = h.number;
  ordered = h.ordered;
  placed = get_kept places (place ∷ []) h.number at h.placed;
}

jumps_more : (order places : List ℕ) (place : ℕ) (code new : List (Option Insn)) (at slot : ℕ) → Keeps code new
    → JumpsTo order places code at slot → JumpsTo order (places ++ place ∷ []) new at slot
jumps_more order places place code new at slot keeps h = record {
  to = h.to;
  there = stands_more order places place slot h.to h.there;
  way = h.way;
  here = keeps at _ h.here;
  way_is = h.way_is;
}

falls_more : (order places : List ℕ) (place : ℕ) (code new : List (Option Insn)) (i : Insn) (at slot : ℕ) → Keeps code new
    → FallsRight order places code i at slot
    → FallsRight order (places ++ place ∷ []) new i at slot
falls_more order places place code new i at slot keeps h = (
  h.0,
  h.1,
  elim h.2 [
    | inl there ↦ inl (stands_more order places place slot h.0 there)
    | inr jumps ↦ inr (jumps_more order places place code new h.0 slot keeps jumps)
  ],
)

is_written_more : (order places : List ℕ) (place : ℕ) (code new : List (Option Insn)) (i : Insn) (slot at : ℕ) → Keeps code new
    → IsWritten order places code i slot at
    → IsWritten order (places ++ place ∷ []) new i slot at
is_written_more order places place code new i slot at keeps h = record {
  way = h.way;
  here = keeps at _ h.here;
  jump = λ to e. let j = h.jump to e in (j.0, stands_more order places place to j.0 j.1, j.2);
  fall = λ to e. falls_more order places place code new i at to keeps (h.fall to e);
}

added_more : (p : List (Option Insn)) (order places : List ℕ) (place : ℕ) (code new : List (Option Insn)) (at : ℕ) → Keeps code new
    → IsAddedAt p order places code at
    → IsAddedAt p order (places ++ place ∷ []) new at
unfolding jumps_more
added_more p order places place code new at keeps h = record {
  slot = h.slot;
  of = h.of;
  insn = h.insn;
  owner = stands_more order places place h.slot h.of h.owner;
  owned = h.owned;
  behind = h.behind;
  to = h.to;
  falls = h.falls;
  jumps = jumps_more order places place code new at h.to keeps h.jumps;
  over = h.over;
  leaps = h.leaps;
  spot = h.spot;
  between = stands_more order places place h.over h.spot h.between;
  above = h.above;
  below = h.below;
}

has_stands : (p : List (Option Insn)) (marks : List Mark) (order places : List ℕ) (slot place : ℕ) → IsOrder p marks order
    → HasPlace marks places slot place → StandsAt order places slot place
has_stands p marks order places slot place h has = record {
  number = has.number;
  ordered = h.marked.order_slot slot has.number has.done;
  placed = has.placed;
}

-- ---- what is written after an instruction

no_jump : (code : List (Option Insn)) (way : ℕ) → way ≡ 0 → with_jump code way ≡ code
no_jump code way e = rw e refl

some_jump : (code : List (Option Insn)) (way : ℕ) → eqb way 0 ≡ false → with_jump code way ≡ code ++ Some (insn.Jump (pos way)) ∷ []
some_jump code way e = rw e refl

-- either nothing was written, or a jump to what the instruction falls to
pub record HasJump (marks : List Mark) (places : List ℕ) (code : List (Option Insn)) (fall : Option ℕ) (behind : List (Option Insn)) : Type 0 where
  pub to : ℕ
  pub falls : fall ≡ Some to
  pub way : ℕ
  pub far : way ≢ 0
  pub there : IsWayTo marks places code to way
  pub behind_is : behind ≡ code ++ Some (insn.Jump (pos way)) ∷ []

leads_cases : (marks : List Mark) (places : List ℕ) (code : List (Option Insn)) (fall : Option ℕ) (behind : List (Option Insn))
    → LeadsOn marks places code fall behind
    → (behind ≡ code) ⊎ HasJump marks places code fall behind
leads_cases marks places code None behind h = inl h
leads_cases marks places code (Some to) behind h = elim (cases_Bool (eqb h.0 0)) [
  | inl none ↦ inl (h.2 ∙ no_jump code h.0 (eqb-true h.0 0 none))
  | inr some ↦ inr (record { to = to; falls = refl; way = h.0; far = eqb-false h.0 0 some; there = h.1; behind_is = h.2 ∙ some_jump code h.0 some })
]

pub length-half : (i : Insn) → length (half_of i) + 1 ≡ slots_in i
length-half (insn.Wide dst value) = refl
length-half _ = refl

half_old : (behind : List (Option Insn)) (m : Insn) (k : ℕ) (j : Insn) → slice_get (behind ++ half_of m) k ≡ Some (Some j) → slice_get behind k ≡ Some (Some j)
half_old behind (insn.Wide dst value) k j e = elim (get_pushed behind None k (Some j) e) [
  | inl old ↦ old
  | inr here ↦ absurd (none-some j (sym here.1))
]
half_old behind _ k j e = subst (λ (xs : List (Option Insn)). slice_get xs k ≡ Some (Some j)) (append-nil behind) e

-- what is in the new code after what was written last was there before, or is the jump that was added
old_or_jump : (marks : List Mark) (places : List ℕ) (code : List (Option Insn)) (fall : Option ℕ) (behind : List (Option Insn)) (k : ℕ) (j : Insn)
    → LeadsOn marks places code fall behind
    → slice_get behind k ≡ Some (Some j) → (slice_get code k ≡ Some (Some j)) ⊎ ((k ≡ length code) × HasJump marks places code fall behind)
old_or_jump marks places code fall behind k j h e = elim (leads_cases marks places code fall behind h) [
  | inl same ↦ inl (rw same at e)
  | inr jump ↦ elim (get_pushed code (Some (insn.Jump (pos jump.way))) k (Some j)
      (subst (λ (xs : List (Option Insn)). slice_get xs k ≡ Some (Some j)) jump.behind_is e)) [
        | inl old ↦ inl old
        | inr here ↦ inr (here.0, jump)
      ]
]

keeps_behind : (marks : List Mark) (places : List ℕ) (code : List (Option Insn)) (fall : Option ℕ) (behind : List (Option Insn))
    → LeadsOn marks places code fall behind → Keeps code behind
keeps_behind marks places code fall behind h k o e = elim (leads_cases marks places code fall behind h) [
  | inl same ↦ rw same e
  | inr jump ↦ rw jump.behind_is (get_kept code (Some (insn.Jump (pos jump.way)) ∷ []) k o e)
]

pub length-behind : (marks : List Mark) (places : List ℕ) (code : List (Option Insn)) (fall : Option ℕ) (behind : List (Option Insn))
    → LeadsOn marks places code fall behind
    → (length code ≤ length behind) × (length behind ≤ length code + 1)
length-behind marks places code fall behind h = elim (leads_cases marks places code fall behind h) [
  | inl same ↦ let e : length behind ≡ length code = ap length same in (omega arith, omega arith)
  | inr jump ↦ let e : length behind ≡ length code + 1 =
      ap length jump.behind_is ∙ length_push code (Some (insn.Jump (pos jump.way))) in (omega arith, omega arith)
]

-- ---- what holds of an instruction that was written

-- the facts of one that was written last: where it is, and what is there
pub record IsNew (p : List (Option Insn)) (marks : List Mark) (order places : List ℕ) (code : List (Option Insn)) (slot : ℕ) (i : Insn)
    (new : List (Option Insn)) (place : ℕ) : Type 0 where
  pub ordered : IsOrder p marks order
  pub neighbours : AreNeighbours p order
  pub here : slice_get order (length places) ≡ Some slot
  pub owned : insn_at p slot ≡ Some i
  pub writes : Writes marks places code i (fall_of i slot) (jump_of i slot) new
  pub last : place + 1 ≡ length new

new_stands : (order places : List ℕ) (slot place : ℕ) → slice_get order (length places) ≡ Some slot → StandsAt order (places ++ place ∷ []) slot place
new_stands order places slot place here = record { number = length places; ordered = here; placed = get_last places place }

pub moved_size : (marks : List Mark) (places : List ℕ) (code : List (Option Insn)) (i : Insn) (jump : Option ℕ) (new : Insn)
    → IsMovedTo marks places code i jump new → slots_in new ≡ slots_in i
moved_size marks places code i None new h = ap slots_in h.0
moved_size marks places code i (Some to) new h = ap slots_in h.2 ∙ slots_in-moved i (pos h.0)

pub new_length : (marks : List Mark) (places : List ℕ) (code : List (Option Insn)) (i : Insn) (fall jump : Option ℕ) (new : List (Option Insn))
    → (w : Writes marks places code i fall jump new)
    → length new ≡ length w.behind + slots_in i
new_length marks places code i fall jump new w =
    omega (
      arith,
      ap length w.written,
      length_push (w.behind ++ half_of w.moved) (Some w.moved),
      length-append w.behind (half_of w.moved),
      length-half
          w.moved,
      moved_size marks places w.behind i jump w.moved w.moved_is,
    )

new_place : (marks : List Mark) (places : List ℕ) (code : List (Option Insn)) (i : Insn) (fall jump : Option ℕ) (new : List (Option Insn)) (place : ℕ)
    → (w : Writes marks places code i fall jump new)
    → place + 1 ≡ length new → place ≡ length (w.behind ++ half_of w.moved)
new_place marks places code i fall jump new place w last =
    omega (arith, ap length w.written, length_push (w.behind ++ half_of w.moved) (Some w.moved))

keeps_new : (marks : List Mark) (places : List ℕ) (code : List (Option Insn)) (i : Insn) (fall jump : Option ℕ) (new : List (Option Insn))
    → (w : Writes marks places code i fall jump new) → Keeps w.behind new
keeps_new marks places code i fall jump new w k o e =
    rw w.written (get_kept (w.behind ++ half_of w.moved) (Some w.moved ∷ []) k o (get_kept w.behind (half_of w.moved) k o e))

keeps_all : (marks : List Mark) (places : List ℕ) (code : List (Option Insn)) (i : Insn) (fall jump : Option ℕ) (new : List (Option Insn))
    → (w : Writes marks places code i fall jump new) → Keeps code new
keeps_all marks places code i fall jump new w k o e =
    keeps_new marks places code i fall jump new w k o (keeps_behind marks places code fall w.behind w.leads_on k o e)

-- what an instruction jumps to
abbrev JumpsBy : List ℕ → List ℕ → Insn → ℕ → ℕ → ℕ → Type 0
JumpsBy order places i slot place way = (to : ℕ) → jump_of i slot ≡ Some to → (t : ℕ) × StandsAt order places to t × (t + way + 1 ≡ place)

new_jump : (p : List (Option Insn)) (marks : List Mark) (order places : List ℕ) (behind : List (Option Insn)) (i : Insn) (slot place : ℕ) (jump : Option ℕ)
    (new : Insn)
    → IsOrder p marks order
    → jump ≡ jump_of i slot → place + 1 ≡ length behind + slots_in i → IsMovedTo marks places behind i jump new
    → (way : ℕ) × (new ≡ moved i (pos way)) × JumpsBy order (places ++ place ∷ []) i slot place way
new_jump p marks order places behind i slot place None new h e last is =
    (0, is.0 ∙ sym (moved_none i (pos 0) is.1), λ to jumps. absurd (none-some to (e ∙ jumps)))
new_jump p marks order places behind i slot place (Some to) new h e last is =
    let one = one_slot i slot to (sym e) in
    let t = is.1 in
    let way = t.way_is in (
      is.0,
      is.2,
      λ x jumps.
          let same : to ≡ x = same_Some to x (e ∙ jumps) in (
            t.place,
            subst (λ (y : ℕ). StandsAt order (places ++ place ∷ []) y t.place) same
                (stands_more order places place to t.place (has_stands p marks order places to t.place h t.has)),
            omega arith,
          ),
    )

new_fall : (p : List (Option Insn)) (marks : List Mark) (order places : List ℕ) (code behind new : List (Option Insn)) (i : Insn) (slot place to : ℕ)
    (fall : Option ℕ)
    → IsOrder p marks order
    → fall ≡ Some to → place + 1 ≡ length behind + slots_in i → Keeps behind new → LeadsOn marks places code fall behind
    → FallsRight order (places ++ place ∷ []) new i place to
new_fall p marks order places code behind new i slot place to None h e last keeps leads = absurd (none-some to e)
new_fall p marks order places code behind new i slot place to (Some x) h e last keeps leads =
    let same : x ≡ to = same_Some x to e in
    let t = leads.1 in
    let way = t.way_is in
    let there = subst (λ (y : ℕ). StandsAt order (places ++ place ∷ []) y t.place) same
    (stands_more order places place x t.place (has_stands p marks order places x t.place h t.has)) in
    elim (cases_Bool (eqb leads.0 0)) [
      | inl none ↦
          let zero : leads.0 ≡ 0 = eqb-true leads.0 0 none in
          let len : length behind ≡ length code = ap length (leads.2 ∙ no_jump code leads.0 zero) in
          (t.place, omega arith, inl there)
      | inr some ↦
          let is : behind ≡ code ++ Some (insn.Jump (pos leads.0)) ∷ [] = leads.2 ∙ some_jump code leads.0 some in
          let len : length behind ≡ length code + 1 = ap length is ∙ length_push code (Some (insn.Jump (pos leads.0))) in (
            length code,
            omega arith,
            inr (record {
              to = t.place;
              there = there;
              way = leads.0;
              here = keeps (length code) _ (rw is (get_last code (Some (insn.Jump (pos leads.0)))));
              way_is = t.way_is;
            }),
          )
    ]

new_written : (p : List (Option Insn)) (marks : List Mark) (order places : List ℕ) (code : List (Option Insn)) (slot : ℕ) (i : Insn)
    (new : List (Option Insn)) (place : ℕ)
    → IsNew p marks order places code slot i new place → IsWritten order (places ++ place ∷ []) new i slot place
new_written p marks order places code slot i new place n =
    let w = n.writes in
    let len = new_length marks places code i (fall_of i slot) (jump_of i slot) new w in
    let at = new_place marks places code i (fall_of i slot) (jump_of i slot) new place w n.last in
    let last : place + 1 ≡ length w.behind + slots_in i = n.last ∙ len in
    let jump = new_jump p marks order places w.behind i slot place (jump_of i slot) w.moved n.ordered refl last w.moved_is in
    let there : slice_get new place ≡ Some (Some w.moved) = rw (at, w.written) (get_last (w.behind ++ half_of w.moved) (Some w.moved)) in
    record {
      way = jump.0;
      here = there ∙ ap (λ (m : Insn). Some (Some m)) jump.1;
      jump = jump.2;
      fall = λ to falls. new_fall p marks order places code w.behind new i slot place to (fall_of i slot) n.ordered falls last
          (keeps_new marks places code i (fall_of i slot) (jump_of i slot) new w) w.leads_on;
    }

-- a place that was given to a slot is an old one or the last
abbrev StoodAt : List ℕ → List ℕ → ℕ → ℕ → ℕ → Type 0
StoodAt order places place slot at = StandsAt order places slot at ⊎ ((at ≡ place) × (slice_get order (length places) ≡ Some slot))

stood_at : (order places : List ℕ) (place slot at : ℕ) → StandsAt order (places ++ place ∷ []) slot at → StoodAt order places place slot at
stood_at order places place slot at h = elim (get_pushed places place h.number at h.placed) [
  | inl old ↦ inl (record { number = h.number; ordered = h.ordered; placed = old })
  | inr here ↦ inr (here.1, subst (λ (n : ℕ). slice_get order n ≡ Some slot) here.0 h.ordered)
]

each_more : (p : List (Option Insn)) (marks : List Mark) (order places : List ℕ) (code : List (Option Insn)) (slot : ℕ) (i : Insn) (new : List (Option Insn))
    (place : ℕ)
    → IsNew p marks order places code slot i new place → AreWritten p order places code
    → (s at : ℕ) (j : Insn) → StandsAt order (places ++ place ∷ []) s at → insn_at p s ≡ Some j → IsWritten order (places ++ place ∷ []) new j s at
each_more p marks order places code slot i new place n old s at j stands owned = elim (stood_at order places place s at stands) [
  | inl before ↦ is_written_more order places place code new j s at (keeps_all marks places code i (fall_of i slot) (jump_of i slot) new n.writes)
      (old.each s at j before owned)
  | inr here ↦
      let same : slot ≡ s = same_Some slot s (sym n.here ∙ here.1) in
      let insn : i ≡ j = same_Some i j (sym n.owned ∙ ap (insn_at p) same ∙ owned) in
      rw (← same, ← insn, here.0) (new_written p marks order places code slot i new place n)
]

-- what an instruction jumps to was written between what it falls to and the jump there
record Leaps (order places : List ℕ) (code : List (Option Insn)) (i : Insn) (slot fall : ℕ) : Type 0 where
  pub over : ℕ
  pub leaps : jump_of i slot ≡ Some over
  pub spot : ℕ
  pub between : StandsAt order places over spot
  pub above : fall < spot
  pub below : spot < length code

leaps_over : (p : List (Option Insn)) (marks : List Mark) (order places : List ℕ) (code : List (Option Insn)) (slot : ℕ) (i : Insn) (new : List (Option Insn))
    (place : ℕ)
    → (n : IsNew p marks order places code slot i new place) → AreWritten p order places code → (j : HasJump marks places code (fall_of i slot) n.writes.behind)
    → Leaps order places code i slot j.there.place
leaps_over p marks order places code slot i new place n old j =
    let has = j.there.has in
    let to = n.ordered.marked.order_slot j.to has.number has.done in
    elim (n.neighbours has.number (length places) j.to slot to n.here (fall_edge p slot i j.to n.owned j.falls)) [
      | inl one ↦ absurd (j.far (omega (arith, j.there.way_is, old.last has.number (sym one) j.there.place has.placed)))
      | inr w ↦
          let k = behind_number p order (length places) slot w.0 (n.ordered.ordered (length places) slot n.here).2 (jump_is_edge p slot w.0 w.1) w.2 in
          let spot = found places k.0 k.1 in
          record {
            over = w.0;
            leaps = jump_of_edge p slot i w.0 n.owned w.1;
            spot = spot.0;
            between = record { number = k.0; ordered = k.2; placed = spot.1 };
            above = old.rising has.number k.0 j.there.place spot.0 (w.3 k.0 k.2) has.placed spot.1;
            below = old.inside k.0 spot.0 spot.1;
          }
    ]

only_more : (p : List (Option Insn)) (marks : List Mark) (order places : List ℕ) (code : List (Option Insn)) (slot : ℕ) (i : Insn) (new : List (Option Insn))
    (place : ℕ)
    → IsNew p marks order places code slot i new place → AreWritten p order places code
    → (at : ℕ) (j : Insn) → slice_get new at ≡ Some (Some j)
    → ((s : ℕ) × StandsAt order (places ++ place ∷ []) s at) ⊎ IsAddedAt p order (places ++ place ∷ []) new at
only_more p marks order places code slot i new place n old at j there =
    let w = n.writes in
    let spot = new_place marks places code i (fall_of i slot) (jump_of i slot) new place w n.last in
    let len = new_length marks places code i (fall_of i slot) (jump_of i slot) new w in
    let in_new = subst (λ (xs : List (Option Insn)). slice_get xs at ≡ Some (Some j)) w.written there in
    elim (get_pushed (w.behind ++ half_of w.moved) (Some w.moved) at (Some j) in_new) [
      | inr here ↦ let e : place ≡ at =
          spot ∙ sym here.0 in inl (slot, subst (λ (x : ℕ). StandsAt order (places ++ place ∷ []) slot x) e (new_stands order places slot place n.here))
      | inl lower ↦ elim (old_or_jump marks places code (fall_of i slot) w.behind at j w.leads_on (half_old w.behind w.moved at j lower)) [
        | inl before ↦ elim (old.only at j before) [
          | inl stands ↦ inl (stands.0, stands_more order places place stands.0 at stands.1)
          | inr added ↦ inr (added_more p order places place code new at (keeps_all marks places code i (fall_of i slot) (jump_of i slot) new w) added)
        ]
        | inr jump ↦
            let h = jump.1 in
            let size : length w.behind ≡ length code + 1 = ap length h.behind_is ∙ length_push code (Some (insn.Jump (pos h.way))) in
            let at_end : at ≡ length code = jump.0 in
            let l = leaps_over p marks order places code slot i new place n old h in
            inr (record {
              slot = slot;
              of = place;
              insn = i;
              owner = new_stands order places slot place n.here;
              owned = n.owned;
              behind = omega (arith, n.last);
              to = h.to;
              falls = h.falls;
              jumps = record {
                to = h.there.place;
                there = stands_more order places place h.to h.there.place (has_stands p marks order places h.to h.there.place n.ordered h.there.has);
                way = h.way;
                here = keeps_new marks places code i (fall_of i slot) (jump_of i slot) new w at _
                    (rw (at_end, h.behind_is) (get_last code (Some (insn.Jump (pos h.way)))));
                way_is = rw at_end h.there.way_is;
              };
              over = l.over;
              leaps = l.leaps;
              spot = l.spot;
              between = stands_more order places place l.over l.spot l.between;
              above = l.above;
              below = omega (arith, l.below);
            })
      ]
    ]

pub written_more : (p : List (Option Insn)) (marks : List Mark) (order places : List ℕ) (code : List (Option Insn)) (slot : ℕ) (i : Insn)
    (new : List (Option Insn)) (place : ℕ)
    → IsNew p marks order places code slot i new place → AreWritten p order places code → AreWritten p order (places ++ place ∷ []) new
written_more p marks order places code slot i new place n old =
    let w = n.writes in
    let longer = length-behind marks places code (fall_of i slot) w.behind w.leads_on in
    let len = new_length marks places code i (fall_of i slot) (jump_of i slot) new w in
    let one = length-half i in
    let last = n.last in
    record {
      inside = λ m at e. elim (get_pushed places place m at e) [
        | inl before ↦ omega (arith, old.inside m at before)
        | inr here ↦ let same : at ≡ place = here.1 in omega arith
      ];
      rising = λ m k a b lt e f. elim (get_pushed places place k b f) [
        | inl later ↦ elim (get_pushed places place m a e) [
          | inl before ↦ old.rising m k a b lt before later
          | inr here ↦ absurd (omega (arith, here.0, slice_get_within places k b later))
        ]
        | inr end ↦ elim (get_pushed places place m a e) [
          | inl before ↦ omega (arith, end.1, old.inside m a before)
          | inr here ↦ absurd (omega (arith, here.0, end.0))
        ]
      ];
      last = λ m long at e. elim (get_pushed places place m at e) [
        | inl before ↦ absurd (omega (arith, slice_get_within places m at before, length_push places place))
        | inr here ↦ let same : at ≡ place = here.1 in omega arith
      ];
      each = each_more p marks order places code slot i new place n old;
      only = only_more p marks order places code slot i new place n old;
    }
