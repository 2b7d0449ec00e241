-- What comes to a slot, state by state, and the slots that send it.
use Rattle.std.specs.Prelude.{◌++◌, ℕ, zero, suc, List, [], ◌∷◌, Bool, if◌then◌else◌, Option, Some, None}
use Rattle.ebpf_insn.specs.declared.insn.Insn.{Insn}
use Rattle.ebpf_insn.specs.Program.{insn_at}
use Rattle.ebpf_flow.specs.declared.edges.Edges.{Edges}
use Rattle.ebpf_flow.specs.Edges.{edges_at, leads_to}
use Rattle.ebpf_state.specs.StateView.{StateView}
use Rattle.ebpf_verify.specs.declared.comers.Comer.{Comer}
use Rattle.ebpf_verify.specs.declared.entry.EntryState.{EntryState}
use Rattle.ebpf_verify.specs.declared.entry.EntryState.TheVariants.{Known}
use Rattle.ebpf_verify.specs.Rules.{after_fall, after_jump}
use Rattle.ebpf_verify.specs.Entry.{entry_of}

-- what an edge carries from a slot, if it carries anything and leads where it is asked of
abbrev pub along : Option StateView → Bool → ℕ → List Comer
along None leads from = []
along (Some s) leads from = if leads then record { from = from; state = s } ∷ [] else []

-- what came, where that is one state
abbrev pub comer_in : EntryState → ℕ → List Comer
comer_in (Known s) from = record { from = from; state = s } ∷ []
comer_in _ from = []

-- what an instruction sends along its edges, as far as they are asked of: first by its jump, then by its fall
abbrev pub sent_along : Insn → (from : ℕ) → StateView → (jumps falls : Bool) → List Comer
sent_along i from s jumps falls = along (after_jump i s) jumps from ++ along (after_fall from i s) falls from

-- what a slot sends to another
abbrev pub sent_by : Option Insn → Edges → (from to : ℕ) → EntryState → List Comer
sent_by (Some i) e from to (Known s) = sent_along i from s (leads_to e.jump to) (leads_to e.fall to)
sent_by _ e from to _ = []

abbrev pub sent_from : List (Option Insn) → (from to : ℕ) → EntryState → List Comer
sent_from p from to entry = sent_by (insn_at p from) (edges_at p from) from to entry

-- what the slots below m send to a slot, in ascending order
unfoldable pub comers_below : List (Option Insn) → ℕ → ℕ → List Comer
comers_below p zero to = []
comers_below p (suc m) to = comers_below p m to ++ sent_from p m to (entry_of p m)

-- only lower slots send to a slot
abbrev pub comers : List (Option Insn) → ℕ → List Comer
comers p to = comers_below p to to
