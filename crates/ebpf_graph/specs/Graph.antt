-- The graph of a program's flow in the DOT language: a node for each basic block, and the edges that leave it.
use Rattle.std.specs.Prelude.{ℕ, zero, suc, ◌++◌, List, [], length, Bool, true, false, if◌then◌else◌, ◌&&◌, ◌==◌, nat_le, codes, decimal, Option}
use Rattle.std.specs.Prelude.{Some, None, slice_get}
use Rattle.ebpf_insn.specs.declared.insn.Insn.{Insn}
use Rattle.ebpf_insn.specs.declared.insn.Insn.TheVariants as insn
use Rattle.ebpf_insn.specs.Program.{insn_at}
use Rattle.ebpf_text.specs.Listing.{insn_text}
use Rattle.ebpf_flow.specs.declared.edges.Edges.{Edges}
use Rattle.ebpf_flow.specs.Edges.{edges_at}
use Rattle.ebpf_state.specs.declared.kinds.KindRow.{KindRow}
use Rattle.ebpf_verify.specs.declared.entry.EntryState.{EntryState}
use Rattle.ebpf_verify.specs.declared.entry.EntryState.TheVariants.{Unreached, Known, Conflict}
use Rattle.ebpf_explain.specs.Known.{known_words}
use Rattle.ebpf_explain.specs.Losses.{Lost, losses_at, lost_between}
use Rattle.ebpf_explain.specs.StackWords.{texts_below}
use Rattle.ebpf_graph.specs.Blocks.{begins_block, ends_block, first_of_block}
use Rattle.ebpf_graph.specs.Conditions.{condition}

-- a node is named for the first slot of its block
abbrev pub opening : Bool → ℕ → List ℕ
opening true slot = codes "  n" ++ (decimal slot ++ codes " [label=\"")
opening false slot = []

-- what is known of the runs that come to a slot, in the words of `explain`
abbrev pub entry_text : List KindRow → EntryState → List ℕ
entry_text rows (Known s) = known_words s rows ++ codes "\\l"
entry_text rows Unreached = codes "  never entered\\l"
entry_text rows Conflict = codes "  paths meet that hold different objects\\l"

abbrev pub known_text : List KindRow → Option EntryState → List ℕ
known_text rows None = []
known_text rows (Some entry) = entry_text rows entry

-- before the first line of a block, where the states are asked for and the verifier looked at the slot
abbrev pub known_before : Bool → List KindRow → Option EntryState → List ℕ
known_before true rows entry = known_text rows entry
known_before false rows entry = []

-- before the line of the refused slot
abbrev pub mark : Bool → List ℕ
mark true = codes "refused at "
mark false = []

abbrev pub is_at : Option ℕ → ℕ → Bool
is_at None slot = false
is_at (Some refused) slot = refused == slot

-- the line of the listing, which ends at the left of its node as DOT has it
abbrev pub label_line : ℕ → Insn → List ℕ
label_line slot i = decimal slot ++ (codes ": " ++ (insn_text i ++ codes "\\l"))

-- the refused slot is one of these, the last of which is included
abbrev pub is_among : Option ℕ → ℕ → ℕ → Bool
is_among None first last = false
is_among (Some refused) first last = nat_le first refused && nat_le refused last

-- the block of the refused slot is red
abbrev pub node_end : Bool → List ℕ
node_end true = codes "\", color=red];\n"
node_end false = codes "\"];\n"

-- a branch that is taken has its condition, and one that isn't is else
abbrev pub jump_condition : Insn → List ℕ
jump_condition (insn.Branch width cond left right offset) = condition width cond left right
jump_condition _ = []

abbrev pub fall_condition : Insn → List ℕ
fall_condition (insn.Branch width cond left right offset) = codes "else"
fall_condition _ = []

-- a label, where it has any words: a condition, and in a line of its own what is lost
abbrev pub label_by : (unconditional unlost : Bool) → (condition lost : List ℕ) → List ℕ
label_by true true condition lost = []
label_by true false condition lost = codes " [label=\"lost" ++ (lost ++ codes "\"]")
label_by false true condition lost = codes " [label=\"" ++ (condition ++ codes "\"]")
label_by false false condition lost = codes " [label=\"" ++ (condition ++ (codes "\\nlost" ++ (lost ++ codes "\"]")))

abbrev pub label : (condition lost : List ℕ) → List ℕ
label condition lost = label_by (length condition == 0) (length lost == 0) condition lost

-- an edge from a block to a slot, and what is lost where it leads of what comes from the last slot of the block
abbrev pub edge_text : List Lost → (first last : ℕ) → Option ℕ → (condition : List ℕ) → List ℕ
edge_text losses first last None condition = []
edge_text losses first last (Some to) condition =
    codes "  n" ++ (decimal first ++ (codes " -> n" ++ (decimal to ++ (label condition (lost_between losses last to) ++ codes ";\n"))))

abbrev pub edge_texts : List Lost → (first last : ℕ) → Insn → Edges → List ℕ
edge_texts losses first last i e = edge_text losses first last e.fall (fall_condition i) ++ edge_text losses first last e.jump (jump_condition i)

-- where the block that begins at a slot ends with an instruction
abbrev pub closing : Bool → List Lost → Option ℕ → (first last : ℕ) → Insn → Edges → List ℕ
closing false losses refused first last i e = []
closing true losses refused first last i e = node_end (is_among refused first last) ++ edge_texts losses first last i e

-- what is lost at the slots below m that begin a block
unfoldable pub losses_below : List (Option Insn) → List EntryState → ℕ → List Lost
losses_below p entries zero = []
losses_below p entries (suc m) = losses_below p entries m ++ (if begins_block p m then losses_at p entries m else [])

-- where the states are asked for, at those that the verifier looked at
abbrev pub losses_of : Bool → List (Option Insn) → List EntryState → List Lost
losses_of states p entries = if states then losses_below p entries (length entries) else []

-- what an instruction adds; a second half of one adds nothing
abbrev pub slot_part : Bool → List (Option Insn) → List EntryState → List KindRow → Option ℕ → ℕ → Option Insn → List ℕ
slot_part states p entries rows refused slot None = []
slot_part states p entries rows refused slot (Some i) =
    opening (begins_block p slot) slot ++ (known_before (states && begins_block p slot) rows (slice_get entries slot) ++ (mark (is_at refused slot) ++ (label_line slot i ++
    closing (ends_block p slot) (losses_of states p entries) refused (first_of_block p slot) slot i (edges_at p slot))))

abbrev pub slot_graph : Bool → List (Option Insn) → List EntryState → List KindRow → Option ℕ → ℕ → List ℕ
slot_graph states p entries rows refused slot = slot_part states p entries rows refused slot (insn_at p slot)

-- the graph of a program, of which a slot may be refused, with what is known before each block where that is asked for
abbrev pub graph_of : Bool → List (Option Insn) → List EntryState → List KindRow → Option ℕ → List ℕ
graph_of states p entries rows refused =
    codes "digraph program {\n  node [shape=box, fontname=monospace];\n" ++ (texts_below (length p) (slot_graph states p entries rows refused) ++ codes "}\n")
