-- Which slots begin a block, and the first slot of each, one slot after another.
use Rattle.std.proofs.Common.{◌≡◌, ℕ, ◌+◌, ◌<◌, List, length, Bool, Option, slice_index_or, false, refl, ◌∙◌, add-one, cond, arith}
use Rattle.std.proofs.lemmas.List.{get_or_default}
use Rattle.std.specs.Prelude.{◌==◌, ◌||◌}
use Rattle.ebpf_insn.specs.declared.insn.Insn.{Insn}
use Rattle.ebpf_flow.specs.Edges.{edges_at}
use Rattle.ebpf_graph.specs.Blocks.{begins_at, begins_block, begun_by, first_of_block, last_begun}
use Rattle.ebpf_graph.specs.Drawn.{AreBegins}

pub begun_by-none : (p : List (Option Insn)) (k : ℕ) → begun_by p 0 k ≡ (k == 0)
unfolding begun_by
begun_by-none p k = refl

pub begun_by-more : (p : List (Option Insn)) (m k : ℕ) (old : Bool) → old ≡ begun_by p m k
    → (begins_at (edges_at p m) k || old) ≡ begun_by p (m + 1) k
unfolding begun_by
begun_by-more p m k old e = rw (add-one, e) refl

pub last_begun-none : (p : List (Option Insn)) → 0 ≡ last_begun p 0
unfolding last_begun
last_begun-none p = refl

-- the first slot of the block that a slot is in, by the flag of the slot
pub first_here : (p : List (Option Insn)) (slots slot first last : ℕ) (flags : List Bool) (flag : Bool) → slots ≡ length p → slot < slots → AreBegins p flags
    → flag ≡ slice_index_or flags slot flag → last ≡ last_begun p slot → first ≡ cond flag slot last → first ≡ first_of_block p slot
unfolding last_begun
first_here p slots slot first last flags flag all inside b read known e =
    let begins : flag ≡ begins_block p slot =
    read ∙ get_or_default flags slot flag false (omega (arith, all, inside, b.len)) ∙ b.each slot (omega (arith, all, inside)) in rw (e, begins, known) refl

-- the same, of the slot after it
pub last_begun-next : (p : List (Option Insn)) (slot first : ℕ) → first ≡ first_of_block p slot → first ≡ last_begun p (slot + 1)
last_begun-next p slot first e = rw add-one e
