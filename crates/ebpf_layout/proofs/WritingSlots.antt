-- The next of the order is written.
use Rattle.std.proofs.Common.{◌≡◌, ℕ, ◌+◌, ◌*◌, ◌<◌, ◌≤◌, List, [], ◌∷◌, ◌++◌, length, take, Option, Some, None, refl, sym, ap, ◌∙◌, subst, arith, zero, suc}
use Rattle.std.specs.Prelude.{slice_get, IfSome}
use Rattle.std.proofs.lemmas.Option.{none-some, slice_get_within, get_or_from_slice_get}
use Rattle.std.proofs.lemmas.List.{take_more, length_push}
use Rattle.ebpf_insn.specs.declared.insn.Insn.{Insn}
use Rattle.ebpf_insn.specs.Program.{insn_at, slots_in}
use Rattle.ebpf_flow.specs.Edges.{edges_of, fall_of, jump_of}
use Rattle.ebpf_layout.specs.declared.mark.Mark.{Mark}
use Rattle.ebpf_layout.specs.EdgeFaults.{edge_fault_at}
use Rattle.ebpf_layout.specs.Paths.{IsEdge, IsReached}
use Rattle.ebpf_layout.specs.Search.{size_of, slots_of, IsOrder}
use Rattle.ebpf_layout.specs.Placing.{AreNeighbours}
use Rattle.ebpf_layout.specs.Writing.{IsPlaced, Writes, IsCode, IsWriting}
use Rattle.ebpf_layout.proofs.PathLemmas.{fall_is_edge, jump_is_edge}
use Rattle.ebpf_layout.proofs.Searching.{found, slots_of-push, order_fits}
use Rattle.ebpf_layout.proofs.Reaching.{behind_fine}
use Rattle.ebpf_layout.proofs.Written.{written_more, length-behind, new_length}

-- the next of the order, in a program of which nothing reached has a fault
pub record IsNext (p : List (Option Insn)) (marks : List Mark) (order places : List ℕ) (code : List (Option Insn)) (count slot : ℕ) (i : Insn) : Type 0 where
  pub ordered : IsOrder p marks order
  pub neighbours : AreNeighbours p order
  pub fine : (k : ℕ) → IsReached p k → edge_fault_at p k ≡ None
  pub here : slice_get order (length places) ≡ Some slot
  pub owned : insn_at p slot ≡ Some i
  pub writing : IsWriting p order places code count

placed_edge : (p : List (Option Insn)) (marks : List Mark) (order places : List ℕ) (code : List (Option Insn)) (count slot : ℕ) (i : Insn) (to : ℕ)
    → IsNext p marks order places code count slot i → IsEdge p slot to → IsPlaced marks places code to
placed_edge p marks order places code count slot i to n edge =
    let m = behind_fine p marks order (length places) slot to n.ordered n.fine n.here edge in
    let place = found places m.0 m.1 in
    (place.0, record { number = m.0; done = n.ordered.marked.order_mark to m.0 m.2; placed = place.1 }, n.writing.written.inside m.0 place.0 place.1)

placed_if : (p : List (Option Insn)) (marks : List Mark) (order places : List ℕ) (code : List (Option Insn)) (count slot : ℕ) (i : Insn) (edge : Option ℕ)
    → IsNext p marks order places code count slot i → ((to : ℕ) → edge ≡ Some to → IsEdge p slot to) → IfSome edge (IsPlaced marks places code)
placed_if p marks order places code count slot i None n h = tt
placed_if p marks order places code count slot i (Some to) n h = placed_edge p marks order places code count slot i to n (h to refl)

pub placed_fall : (p : List (Option Insn)) (marks : List Mark) (order places : List ℕ) (code : List (Option Insn)) (count slot : ℕ) (i : Insn)
    → IsNext p marks order places code count slot i → IfSome (fall_of i slot) (IsPlaced marks places code)
placed_fall p marks order places code count slot i n = placed_if p marks order places code count slot i (fall_of i slot) n
    (λ to e. fall_is_edge p slot to (subst (λ (o : Option Insn). (edges_of o slot).fall ≡ Some to) (sym n.owned) e))

pub placed_jump : (p : List (Option Insn)) (marks : List Mark) (order places : List ℕ) (code : List (Option Insn)) (count slot : ℕ) (i : Insn)
    → IsNext p marks order places code count slot i → IfSome (jump_of i slot) (IsPlaced marks places code)
placed_jump p marks order places code count slot i n = placed_if p marks order places code count slot i (jump_of i slot) n
    (λ to e. jump_is_edge p slot to (subst (λ (o : Option Insn). (edges_of o slot).jump ≡ Some to) (sym n.owned) e))

-- ---- how many slots are written

slots_of-take : (p : List (Option Insn)) (n : ℕ) (order : List ℕ) → slots_of p (take n order) ≤ slots_of p order
slots_of-take p zero order = omega arith
slots_of-take p (suc n) [] = omega arith
slots_of-take p (suc n) (x ∷ order) = omega (arith, slots_of-take p n order)

slots_of-more : (p : List (Option Insn)) (order : List ℕ) (n slot : ℕ) (i : Insn) → slice_get order n ≡ Some slot → insn_at p slot ≡ Some i
    → slots_of p (take (n + 1) order) ≡ slots_of p (take n order) + slots_in i
slots_of-more p order n slot i here owned =
    let within = slice_get_within order n slot here in
    let next : take (n + 1) order ≡ take n order ++ slot ∷ [] =
    take_more order n 0 within ∙ ap (λ (x : ℕ). take n order ++ x ∷ []) (get_or_from_slice_get order n slot 0 here) in
    ap (slots_of p) next ∙ slots_of-push p (take n order) slot ∙ ap (λ (o : Option Insn). slots_of p (take n order) + size_of o) owned

one_at_least : (i : Insn) → 0 < slots_in i
one_at_least i = search (arith)

-- twice as many slots as the program has are enough
pub slot_fits : (p : List (Option Insn)) (marks : List Mark) (order places : List ℕ) (code : List (Option Insn)) (count slot : ℕ) (i : Insn)
    → IsNext p marks order places code count slot i → length code + 2 * slots_in i ≤ 8192
slot_fits p marks order places code count slot i n =
    let more = slots_of-more p order (length places) slot i n.here n.owned in
    let below = slots_of-take p (length places + 1) order in
    let fits = order_fits p marks [] order n.ordered in
    omega (arith, n.writing.short, n.ordered.formed.few)

pub slot_written : (p : List (Option Insn)) (marks : List Mark) (order places : List ℕ) (code : List (Option Insn)) (count slot : ℕ) (i : Insn)
    (new : List (Option Insn)) (newer place : ℕ)
    → IsNext p marks order places code count slot i → IsCode new newer
    → Writes marks places code i (fall_of i slot) (jump_of i slot) new → place + 1 ≡ length new
    → IsWriting p order (places ++ place ∷ []) new newer
slot_written p marks order places code count slot i new newer place n coded w last =
    let len = new_length marks places code i (fall_of i slot) (jump_of i slot) new w in
    let behind = length-behind marks places code (fall_of i slot) w.behind w.leads_on in
    let more = slots_of-more p order (length places) slot i n.here n.owned in
    let one = one_at_least i in
    let long : length (places ++ place ∷ []) ≡ length places + 1 = length_push places place in
    record {
      coded = coded;
      written = written_more p marks order places code slot i new place
          (record { ordered = n.ordered; neighbours = n.neighbours; here = n.here; owned = n.owned; writes = w; last = last }) n.writing.written;
      short = rw long (omega (arith, n.writing.short));
    }

pub none_written : (p : List (Option Insn)) (order : List ℕ) → IsCode [] 0 → IsWriting p order [] [] 0
none_written p order coded = record {
  coded = coded;
  written = record {
    inside = λ n place e. absurd (none-some place e);
    rising = λ m n a b lt e f. absurd (none-some a e);
    last = λ n long place e. absurd (none-some place e);
    each = λ slot place i stands owned. absurd (none-some place stands.placed);
    only = λ place i e. absurd (none-some (Some i) e);
  };
  short = omega arith;
}
