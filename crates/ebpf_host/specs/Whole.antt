-- What a run of a program has as its context.
use Rattle.std.specs.Prelude.{ℕ, ◌++◌, List}
use Rattle.ebpf_host.specs.declared.program.Program.{Program}

-- the host's bytes, and the program's data after them
abbrev pub whole : Program → (context : List ℕ) → List ℕ
whole p context = context ++ p.data.items
