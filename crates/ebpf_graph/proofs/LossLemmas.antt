-- What is lost where blocks begin, one slot after another.
use Rattle.std.proofs.Common.{◌≡◌, ℕ, ◌+◌, List, [], ◌++◌, Bool, Option, sym, ap, ◌∙◌, append_assoc, append-nil, add-one}
use Rattle.std.specs.Prelude.{if◌then◌else◌}
use Rattle.ebpf_insn.specs.declared.insn.Insn.{Insn}
use Rattle.ebpf_verify.specs.declared.entry.EntryState.{EntryState}
use Rattle.ebpf_explain.specs.Losses.{Lost, losses_at}
use Rattle.ebpf_graph.specs.Blocks.{begins_block}
use Rattle.ebpf_graph.specs.Graph.{losses_below}

pub no_losses : (p : List (Option Insn)) (entries : List EntryState) (before : List Lost) → before ≡ before ++ losses_below p entries 0
unfolding losses_below
no_losses p entries before = sym (append-nil before)

pub more_losses : (p : List (Option Insn)) (entries : List EntryState) (before losses new : List Lost) (m : ℕ) (begins : Bool) → begins ≡ begins_block p m
    → losses ≡ before ++ losses_below p entries m → new ≡ losses ++ (if begins then losses_at p entries m else []) → new ≡ before ++ losses_below p entries (m + 1)
unfolding losses_below
more_losses p entries before losses new m begins is h k =
    let here : Bool → List Lost = λ b. if b then losses_at p entries m else [] in
    rw add-one (k ∙ (ap (λ (xs : List Lost). xs ++ here begins) h
    ∙ (ap (λ (b : Bool). (before ++ losses_below p entries m) ++ here b) is ∙ append_assoc before (losses_below p entries m) (here (begins_block p m)))))
