-- The steps of the run of `one`, as it sees itself: a line for each instruction that it executes, or of those that are chosen, with what the
-- instruction changed.
use Rattle.std.specs.Prelude.{ℕ, zero, suc, ◌-◌, ◌++◌, Bool, false, if◌then◌else◌, List, [], Option, Some, None, option_map}
use Rattle.ebpf_insn.specs.Program.{insn_at}
use Rattle.ebpf_verify.specs.Subject.{Subject}
use Rattle.ebpf_machine.specs.View.{RunView, view_in}
use Rattle.ebpf_explain.specs.StackWords.{texts_below}
use Rattle.ebpf_command.specs.declared.format.Format.{Format}
use Rattle.ebpf_steps.specs.declared.choice.Choice.{Choice}
use Rattle.ebpf_steps.specs.Chosen.{chosen_at}
use Rattle.ebpf_steps.specs.StepText.{line_at}
use Rattle.ebpf_one.specs.declared.headed.Headed.{Headed}
use Rattle.ebpf_one.specs.declared.how.How.{How}
use Rattle.ebpf_one.specs.declared.how.Shown.{Shown}
use Rattle.ebpf_one.specs.Headed.{heading_after}
use Rattle.ebpf_one.specs.Solo.{solo_after}

abbrev pub with_source : How → Headed → How
with_source how source = record how { source = Some source }

-- the run after n instructions
abbrev pub seen_after : Subject → List ℕ → Bool → ℕ → Option RunView
seen_after s context nulls n = view_in (solo_after n s context nulls).world 0

-- ---- which steps are shown

-- all but the last ones of a run of n are skipped, where these are asked for
abbrev pub skipped : Option ℕ → ℕ → ℕ
skipped None n = 0
skipped (Some last) n = n - last

-- what is chosen of a run of n steps
abbrev pub choice_of : Shown → ℕ → Choice
choice_of shown n = record { skipped = skipped shown.last n; from = shown.from; registers = shown.registers }

-- a step from n instructions on, by the run before it and after it
abbrev pub shown_between : Choice → (n : ℕ) → Option RunView → Option RunView → Bool
shown_between choice n (Some before) (Some after) = chosen_at choice n before.pc (insn_at before.subject.program before.pc) after.frame
shown_between choice n (Some before) None = false
shown_between choice n None after = false

abbrev pub is_shown : Choice → Subject → List ℕ → Bool → ℕ → Bool
is_shown choice s context nulls n = shown_between choice n (seen_after s context nulls n) (seen_after s context nulls (suc n))

-- the slot of the last one that is shown of n steps
unfoldable pub slot_shown : Choice → Subject → List ℕ → Bool → ℕ → Option ℕ
slot_shown choice s context nulls zero = None
slot_shown choice s context nulls (suc n) =
    if is_shown choice s context nulls n then option_map (λ v. v.pc) (seen_after s context nulls n) else slot_shown choice s context nulls n

-- ---- their lines

-- the line of C that holds at its pc, where it is known; the instruction there; and what that changed, by the run after it
abbrev pub lines_between : Format → Option Headed → (last : Option ℕ) → Option RunView → Option RunView → List ℕ
lines_between format source last (Some before) (Some after) =
    heading_after format source last before.pc ++ line_at format before.pc (insn_at before.subject.program before.pc) after.frame
lines_between format source last (Some before) None = []
lines_between format source last None after = []

-- the step from n instructions to one more
abbrev pub step_of : Format → Choice → Option Headed → Subject → List ℕ → Bool → ℕ → List ℕ
step_of format choice source s context nulls n =
    if is_shown choice s context nulls n
    then lines_between format source (slot_shown choice s context nulls n) (seen_after s context nulls n) (seen_after s context nulls (suc n))
    else []

-- those of the first n steps that are chosen
abbrev pub steps_of : Format → Choice → Option Headed → Subject → List ℕ → Bool → ℕ → List ℕ
steps_of format choice source s context nulls n = texts_below n (step_of format choice source s context nulls)

-- if they are asked for, those of a run of n steps
abbrev pub steps_asked : Option Shown → How → Format → Subject → List ℕ → ℕ → List ℕ
steps_asked None how format s context n = []
steps_asked (Some shown) how format s context n = steps_of format (choice_of shown n) how.source s context how.nulls n

abbrev pub steps_in : How → Format → Subject → List ℕ → ℕ → List ℕ
steps_in how format s context n = steps_asked how.trace how format s context n
