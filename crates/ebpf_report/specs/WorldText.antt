-- A world, as it is written: what each run did, then what became of the slots of each kind, and then what is on the shelves.
use Rattle.std.specs.Prelude.{ℕ, ◌++◌, List, length}
use Rattle.ebpf_machine.specs.World.{World}
use Rattle.ebpf_state.specs.Kinds.{kind_names}
use Rattle.ebpf_core.specs.Readers.{shelf_in}
use Rattle.ebpf_command.specs.declared.format.Format.{Format}
use Rattle.ebpf_command.specs.declared.format.Format.TheVariants.{Text, Json}
use Rattle.ebpf_report.specs.Below.{below}
use Rattle.ebpf_report.specs.WorldLines.{run_lines, kind_line, shelf_line}
use Rattle.ebpf_report.specs.WorldObjects.{run_object}

abbrev pub run_in : Format → World → ℕ → List ℕ
run_in Text w run = run_lines w run
run_in Json w run = run_object w run

abbrev pub runs_in : Format → World → List ℕ
runs_in format w = below (run_in format w) (length w.runs)

abbrev pub kinds_in : Format → World → List ℕ
kinds_in format w = below (kind_line format w) (length kind_names)

abbrev pub shelves_in : Format → World → List ℕ
shelves_in format w = below (λ shelf. shelf_line format shelf (shelf_in w shelf)) (length kind_names)

abbrev pub world_in : Format → World → List ℕ
world_in format w = runs_in format w ++ (kinds_in format w ++ shelves_in format w)
