-- The lines of a world: those of its runs as text, and those of the slots of a kind and of what is on a shelf in a format.
use Rattle.std.specs.Prelude.{ℕ, ◌++◌, List, [], ◌∷◌, length, codes, decimal, count_by, Option, Some, None, is_some}
use Rattle.std.specs.List.{flat_map}
use Rattle.ebpf_machine.specs.World.{World}
use Rattle.ebpf_core.specs.declared.world.Status.{Status}
use Rattle.ebpf_core.specs.declared.world.Status.TheVariants.{Going, Exited}
use Rattle.ebpf_command.specs.declared.format.Format.{Format}
use Rattle.ebpf_command.specs.Members.{Said, Counted, line_in}
use Rattle.ebpf_core.specs.Readers.{status_in, output_in, executed_in, owner_in, ledger_in, shelf_in}

-- a number of a run's output
abbrev pub run_emit_line : ℕ → ℕ → List ℕ
run_emit_line run value = codes "emit " ++ (decimal run ++ (codes " " ++ (decimal value ++ codes "\n")))

abbrev pub emit_lines : ℕ → Option (List ℕ) → List ℕ
emit_lines run None = []
emit_lines run (Some output) = flat_map (run_emit_line run) output

-- how far a run is, at which slot or with which number
abbrev pub status_line : ℕ → Option Status → Option ℕ → List ℕ
status_line run (Some (Going pc)) (Some executed) =
    codes "run " ++ (decimal run ++ (codes " going " ++ (decimal pc ++ (codes " executed " ++ (decimal executed ++ codes "\n")))))
status_line run (Some (Exited n)) (Some executed) =
    codes "run " ++ (decimal run ++ (codes " exit " ++ (decimal n ++ (codes " executed " ++ (decimal executed ++ codes "\n")))))
status_line run _ _ = []

abbrev pub run_lines : World → ℕ → List ℕ
run_lines w run = emit_lines run (output_in w run) ++ status_line run (status_in w run) (executed_in w run)

-- the slots of a kind, and how many of them are held
abbrev pub held_in : World → ℕ → ℕ
held_in w kind = count_by (λ slot. is_some (owner_in w slot)) (ledger_in w kind)

abbrev pub kind_line : Format → World → ℕ → List ℕ
kind_line format w kind =
    line_in format (Counted (codes "kind") kind ∷ Counted (codes "slots") (length (ledger_in w kind)) ∷ Counted (codes "held") (held_in w kind) ∷ [])

-- the slot on a shelf, if there is one
abbrev pub shelf_line : Format → ℕ → Option ℕ → List ℕ
shelf_line format shelf None = []
shelf_line format shelf (Some slot) = line_in format (Counted (codes "shelf") shelf ∷ Counted (codes "slot") slot ∷ [])
