-- What it means that a program with loops ends, and does what another one does.
use Rattle.std.specs.Prelude.{◌≡◌, ◌≤◌, ◌*◌, ℕ, List, length, Option}
use Rattle.ebpf_insn.specs.declared.insn.Insn.{Insn}
use Rattle.ebpf_insn.specs.Program.{instructions}
use Rattle.ebpf_verify.specs.Subject.{Subject}
use Rattle.ebpf_machine.specs.World.{Exited}
use Rattle.ebpf_machine.specs.View.{CallResult}
use Rattle.ebpf_machine.specs.Step.{FitsShelf}
use Rattle.ebpf_layout.specs.Running.{IsAsFar, first_view, run_on, run_of}
use Rattle.ebpf_unroll.specs.Counting.{count_on}

-- what calls of swap are answered is as long as an object of the shelf's kind
abbrev pub AnswersFit : Subject → List ℕ → (ℕ → CallResult) → Type 0
AnswersFit s context told = (m : ℕ) → FitsShelf (run_on m told (first_view s context)) (told (length (run_on m told (first_view s context)).replies))

-- on a context, and answered so, a program ends, within as many instructions as another one has; and at each number of instructions it is as
-- far as that one after as many or at most twice as many
pub record EndsAs (p : List (Option Insn)) (s : Subject) (context : List ℕ) (told : ℕ → CallResult) : Type 0 where
  pub result : ℕ
  pub ends : (count_on (length (instructions s.program)) told (run_of p s.decl s.rows context)).status ≡ Exited result
  pub alike : (n : ℕ) → (m : ℕ) × (n ≤ m) × (m ≤ 2 * n)
      × IsAsFar (count_on n told (run_of p s.decl s.rows context)) (run_on m told (run_of s.program s.decl s.rows context))

-- so it does on every context of the declared length, whatever its calls are answered that fits
abbrev pub AlwaysEnds : List (Option Insn) → Subject → Type 0
AlwaysEnds p s = (context : List ℕ) (told : ℕ → CallResult) → length context ≡ s.decl.context → AnswersFit s context told → EndsAs p s context told
