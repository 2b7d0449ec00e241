-- The objects of a world's runs, each with its output.
use Rattle.std.specs.Prelude.{ℕ, ◌++◌, List, [], codes, decimal, Option, Some, None, unwrap_or}
use Rattle.ebpf_machine.specs.World.{World}
use Rattle.ebpf_core.specs.declared.world.Status.{Status}
use Rattle.ebpf_core.specs.declared.world.Status.TheVariants.{Going, Exited}
use Rattle.ebpf_core.specs.Readers.{status_in, output_in, executed_in}
use Rattle.ebpf_command.specs.Json.{number_list}

-- how far a run is, at which slot or with which number
abbrev pub status_members : ℕ → Option Status → Option ℕ → List ℕ
status_members run (Some (Going pc)) (Some executed) =
    codes "{\"run\":" ++ (decimal run ++ (codes ",\"going\":" ++ (decimal pc ++ (codes ",\"executed\":" ++ (decimal executed ++ codes ",\"output\":[")))))
status_members run (Some (Exited n)) (Some executed) =
    codes "{\"run\":" ++ (decimal run ++ (codes ",\"exit\":" ++ (decimal n ++ (codes ",\"executed\":" ++ (decimal executed ++ codes ",\"output\":[")))))
status_members run _ _ = codes "{\"run\":" ++ (decimal run ++ codes ",\"output\":[")

abbrev pub run_object : World → ℕ → List ℕ
run_object w run = status_members run (status_in w run) (executed_in w run) ++ (number_list (unwrap_or (output_in w run) []) ++ codes "]}\n")
