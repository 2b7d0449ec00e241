-- Contexts of one program that are one after another.
use Rattle.std.specs.Prelude.{◌*◌, ◌-◌, ℕ, List, length, take, drop}
use Rattle.ebpf_host.specs.declared.program.Program.{Program}

-- how many bytes of context the host gives to a run
abbrev pub given_bytes : Program → ℕ
given_bytes p = p.verified.decl.context - length p.data.items

-- the context with this number, from 0 on
abbrev pub context_at : Program → (number : ℕ) → (contexts : List ℕ) → List ℕ
context_at p number contexts = take (given_bytes p) (drop (number * given_bytes p) contexts)
