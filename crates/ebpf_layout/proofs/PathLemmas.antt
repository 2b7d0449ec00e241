-- Paths, one edge more at either end.
use Rattle.std.proofs.Common.{◌≡◌, ℕ, List, [], ◌∷◌, ◌++◌, Option, Some, None, true, refl, sym, subst, inl, inr, ◌⊎◌}
use Rattle.std.proofs.lemmas.Bool.{or_cases, eqb-true, eq-eqb, or_left, or_right}
use Rattle.ebpf_insn.specs.declared.insn.Insn.{Insn}
use Rattle.ebpf_insn.specs.Program.{insn_at}
use Rattle.ebpf_flow.specs.Edges.{leads_to, jump_of, fall_of, edges_of, edges_at}
use Rattle.ebpf_layout.specs.Paths.{IsEdge, LeadBy, IsPath}

pub path_none : (p : List (Option Insn)) (at : ℕ) → IsPath p at at
path_none p at = record { steps = []; lead = refl }

lead_more : (p : List (Option Insn)) (from : ℕ) (steps : List ℕ) (mid to : ℕ) → LeadBy p from steps mid → IsEdge p mid to → LeadBy p from (steps ++ to ∷ []) to
lead_more p from [] mid to same edge = (subst (λ (k : ℕ). IsEdge p k to) (sym same) edge, refl)
lead_more p from (next ∷ rest) mid to lead edge = (lead.0, lead_more p next rest mid to lead.1 edge)

pub path_more : (p : List (Option Insn)) (from mid to : ℕ) → IsPath p from mid → IsEdge p mid to → IsPath p from to
path_more p from mid to path edge = record { steps = path.steps ++ to ∷ []; lead = lead_more p from path.steps mid to path.lead edge }

pub path_before : (p : List (Option Insn)) (from mid to : ℕ) → IsEdge p from mid → IsPath p mid to → IsPath p from to
path_before p from mid to edge path = record { steps = mid ∷ path.steps; lead = (edge, path.lead) }

-- ---- the two edges of a slot

led : (edge : Option ℕ) (to : ℕ) → leads_to edge to ≡ true → edge ≡ Some to
led None to e = absurd (cc)
led (Some n) to e = let same : to ≡ n = eqb-true to n e in rw same refl

lead_to : (edge : Option ℕ) (to : ℕ) → edge ≡ Some to → leads_to edge to ≡ true
lead_to None to e = absurd (cc)
lead_to (Some n) to e = let same : to ≡ n = cc in eq-eqb to n same

pub edge_cases : (p : List (Option Insn)) (from to : ℕ) → IsEdge p from to → ((edges_at p from).fall ≡ Some to) ⊎ ((edges_at p from).jump ≡ Some to)
edge_cases p from to edge = elim (or_cases (leads_to (edges_at p from).fall to) (leads_to (edges_at p from).jump to) edge) [
  | inl falls ↦ inl (led (edges_at p from).fall to falls)
  | inr jumps ↦ inr (led (edges_at p from).jump to jumps)
]

pub fall_is_edge : (p : List (Option Insn)) (from to : ℕ) → (edges_at p from).fall ≡ Some to → IsEdge p from to
fall_is_edge p from to e = or_left (leads_to (edges_at p from).fall to) (leads_to (edges_at p from).jump to) (lead_to (edges_at p from).fall to e)

pub jump_is_edge : (p : List (Option Insn)) (from to : ℕ) → (edges_at p from).jump ≡ Some to → IsEdge p from to
jump_is_edge p from to e = or_right (leads_to (edges_at p from).fall to) (leads_to (edges_at p from).jump to) (lead_to (edges_at p from).jump to e)

-- ---- the edges of an instruction

pub jump_edge : (q : List (Option Insn)) (k : ℕ) (i : Insn) (to : ℕ) → insn_at q k ≡ Some i → jump_of i k ≡ Some to → (edges_at q k).jump ≡ Some to
jump_edge q k i to at e = subst (λ (o : Option Insn). (edges_of o k).jump ≡ Some to) (sym at) e

pub fall_edge : (q : List (Option Insn)) (k : ℕ) (i : Insn) (to : ℕ) → insn_at q k ≡ Some i → fall_of i k ≡ Some to → (edges_at q k).fall ≡ Some to
fall_edge q k i to at e = subst (λ (o : Option Insn). (edges_of o k).fall ≡ Some to) (sym at) e

pub jump_of_edge : (p : List (Option Insn)) (slot : ℕ) (i : Insn) (to : ℕ) → insn_at p slot ≡ Some i
    → (edges_at p slot).jump ≡ Some to → jump_of i slot ≡ Some to
jump_of_edge p slot i to at e = subst (λ (o : Option Insn). (edges_of o slot).jump ≡ Some to) at e

pub fall_of_edge : (p : List (Option Insn)) (slot : ℕ) (i : Insn) (to : ℕ) → insn_at p slot ≡ Some i
    → (edges_at p slot).fall ≡ Some to → fall_of i slot ≡ Some to
fall_of_edge p slot i to at e = subst (λ (o : Option Insn). (edges_of o slot).fall ≡ Some to) at e
