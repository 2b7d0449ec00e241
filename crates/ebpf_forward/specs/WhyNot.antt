-- Why every jump of a program can't be made to lead forward, in words.
use Rattle.std.specs.Prelude.{◌≡◌, ◌⊎◌, ℕ, ◌++◌, List, [], map, codes, decimal, Option, Some, None, string_bytes}
use Rattle.ebpf_insn.specs.declared.fault.DecodeCode.TheVariants.{ProgramTooLong}
use Rattle.ebpf_insn.specs.declared.insn.Insn.{Insn}
use Rattle.ebpf_insn.specs.Program.{insn_at}
use Rattle.ebpf_flow.specs.declared.fault.FlowCode.{FlowCode}
use Rattle.ebpf_state.specs.declared.kinds.KindRow.{KindRow}
use Rattle.ebpf_state.specs.StateView.{StateView}
use Rattle.ebpf_verify.specs.declared.decl.Decl.{Decl}
use Rattle.ebpf_layout.specs.declared.fault.LayoutFault.{LayoutFault}
use Rattle.ebpf_layout.specs.declared.fault.LayoutFault.TheVariants as layout
use Rattle.ebpf_unroll.specs.declared.long_loop.LongLoop.{LongLoop}
use Rattle.ebpf_explain.specs.Known.{known_words}
use Rattle.ebpf_explain.specs.Reasons.{misled_in}
use Rattle.ebpf_explain.specs.VerifySentences.{verify_sentence}
use Rattle.ebpf_command.specs.declared.codes.RefusalCode.{RefusalCode}
use Rattle.ebpf_command.specs.declared.codes.RefusalCode.TheVariants as code
use Rattle.ebpf_forward.specs.declared.fault.BackEdge.{BackEdge}
use Rattle.ebpf_forward.specs.declared.fault.RefusedVisit.{RefusedVisit}
use Rattle.ebpf_forward.specs.declared.fault.ForwardFault.{ForwardFault}
use Rattle.ebpf_forward.specs.declared.fault.ForwardFault.TheVariants.{Flow, Slots, Refused, Long, Unconfirmed, NoMemory}
use Rattle.ebpf_forward.specs.declared.why_not.KnownVisit.{KnownVisit}
use Rattle.ebpf_forward.specs.declared.why_not.RefusedSlot.{RefusedSlot}
use Rattle.ebpf_forward.specs.declared.why_not.StuckLoop.{StuckLoop}
use Rattle.ebpf_forward.specs.declared.why_not.Turns.{Turns}
use Rattle.ebpf_forward.specs.declared.why_not.WhyNot.{WhyNot}
use Rattle.ebpf_forward.specs.declared.why_not.WhyNot.TheVariants.{Slot, Loop}
use Rattle.ebpf_forward.specs.ExitText.{exit_in}

-- ---- slots

-- a slot that is refused by a code, and why, however often a run comes there
pub record IsRefusal (c : RefusalCode) (slot : ℕ) (why : List ℕ) (r : RefusedSlot) : Type 0 where
  pub code_is : r.code ≡ c
  pub slot_is : r.slot ≡ slot
  pub why_is : string_bytes r.why ≡ why
  pub once : r.visit ≡ None

-- an edge of it leads to no instruction
abbrev pub IsMisled : List (Option Insn) → ℕ → FlowCode → RefusedSlot → Type 0
IsMisled p slot c = IsRefusal (code.Flow c) slot (misled_in p slot c)

-- the first slot for which there is no room
abbrev pub IsTooLong : RefusedSlot → Type 0
IsTooLong = IsRefusal (code.Decode ProgramTooLong) 4096 (codes "  with the jumps that have to be added the program has more than 4096 slots\n")

-- a visit, and the words of what is known before it
pub record IsKnownVisit (visit : ℕ) (known : List ℕ) (v : KnownVisit) : Type 0 where
  pub visit_is : v.visit ≡ visit
  pub known_is : string_bytes v.known ≡ known

-- what is known before a slot that is refused at some visit isn't promised, but the sentence is that of the refusal
pub record IsRefusedKnown (i : Insn) (decl : Decl) (rows : List KindRow) (at : RefusedVisit) (r : RefusedSlot) : Type 0 where
  pub judged : StateView
  pub known : StateView
  pub visit : KnownVisit
  pub code_is : r.code ≡ code.Verify at.code
  pub slot_is : r.slot ≡ at.slot
  pub why_is : string_bytes r.why ≡ verify_sentence at.slot i judged at.code decl rows
  pub at_visit : r.visit ≡ Some visit
  pub visit_is : IsKnownVisit at.visit (known_words known rows) visit

abbrev pub IsRefusedVisit : List (Option Insn) → Decl → List KindRow → RefusedVisit → RefusedSlot → Type 0
IsRefusedVisit p decl rows at r =
    IsRefusal (code.Verify at.code) at.slot [] r
    ⊎ ((i : Insn) × (insn_at p at.slot ≡ Some i) × IsRefusedKnown i decl rows at r)

-- ---- loops

-- a loop that an edge closes, and why it isn't unrolled, however often a run goes round it
pub record IsStuck (e : BackEdge) (why : List ℕ) (l : StuckLoop) : Type 0 where
  pub edge_is : l.edge ≡ e
  pub why_is : string_bytes l.why ≡ why
  pub once : l.turns ≡ None

abbrev pub IsUnconfirmed : BackEdge → StuckLoop → Type 0
IsUnconfirmed e = IsStuck e
    (codes "  slot " ++ (decimal e.from ++ (codes " goes back to slot " ++ (decimal e.to ++ codes ": the program of all turns is not accepted\n"))))

abbrev pub IsClosing : BackEdge → StuckLoop → Type 0
IsClosing e = IsStuck e
    (codes "  slot " ++ (decimal e.from ++ (codes " leads to slot " ++ (decimal e.to
    ++ codes ", from which a path leads back to it: unroll the loop, as ebpf_run unroll does\n"))))

-- after how many turns the program would be too long
abbrev pub turns_line : LongLoop → List ℕ
turns_line l =
    codes "  slot " ++ (decimal l.last ++ (codes " goes back to slot " ++ (decimal l.head ++ (codes ": after " ++ (decimal l.turns
    ++ codes " turns the program would have more than 4096 slots\n")))))

-- what each branch compares that leads out of it
pub record AreTurns (p : List (Option Insn)) (found : LongLoop) (t : Turns) : Type 0 where
  pub count_is : t.count ≡ found.turns
  pub exits_are : map string_bytes t.exits.items ≡ map (exit_in p) found.exits.items

-- which loop it is isn't promised
pub record IsLong (p : List (Option Insn)) (l : StuckLoop) : Type 0 where
  pub found : LongLoop
  pub turns : Turns
  pub edge_is : l.edge ≡ record { from = found.last; to = found.head }
  pub why_is : string_bytes l.why ≡ turns_line found
  pub walked : l.turns ≡ Some turns
  pub turns_are : AreTurns p found turns

-- ---- what it speaks of, and what it says of a fault

-- the slot of which it speaks, if that is one of the program
abbrev pub slot_at : RefusalCode → ℕ → Option ℕ
slot_at (code.Decode c) slot = None
slot_at (code.Flow c) slot = Some slot
slot_at (code.Verify c) slot = Some slot

abbrev pub slot_of : WhyNot → Option ℕ
slot_of (Slot r) = slot_at r.code r.slot
slot_of (Loop l) = Some l.edge.from

abbrev pub OfSlot : (RefusedSlot → Type 0) → WhyNot → Type 0
OfSlot R (Slot r) = R r
OfSlot R (Loop l) = ⊥

abbrev pub OfLoop : (StuckLoop → Type 0) → WhyNot → Type 0
OfLoop R (Slot r) = ⊥
OfLoop R (Loop l) = R l

abbrev pub SaysWhyNot : List (Option Insn) → Decl → List KindRow → ForwardFault → WhyNot → Type 0
SaysWhyNot p decl rows (Flow slot c) = OfSlot (IsMisled p slot c)
SaysWhyNot p decl rows Slots = OfSlot IsTooLong
SaysWhyNot p decl rows (Refused at) = OfSlot (IsRefusedVisit p decl rows at)
SaysWhyNot p decl rows (Long e) = OfLoop (IsLong p)
SaysWhyNot p decl rows (Unconfirmed e) = OfLoop (IsUnconfirmed e)
SaysWhyNot p decl rows NoMemory = λ w. ⊥

abbrev pub SaysWhyNotLaid : List (Option Insn) → LayoutFault → WhyNot → Type 0
SaysWhyNotLaid p (layout.Flow slot c) = OfSlot (IsMisled p slot c)
SaysWhyNotLaid p (layout.Loop from to) = OfLoop (IsClosing (record { from = from; to = to }))
SaysWhyNotLaid p layout.Slots = OfSlot IsTooLong
SaysWhyNotLaid p layout.NoMemory = λ w. ⊥
