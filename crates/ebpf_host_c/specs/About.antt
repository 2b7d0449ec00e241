-- What is said of the program that a handle holds, by a number, which is 0 where it holds none.
use Rattle.std.specs.Prelude.{◌≡◌, ◌+◌, ℕ, Option, length}
use Rattle.std.specs.Arc.{arc_value}
use Rattle.std.specs.Option.{MatchOption}
use Rattle.std.specs.declared.alloc.Global.{Global}
use Rattle.std.specs.declared.sync.Arc.{Arc}
use Rattle.ebpf_host.specs.declared.program.Program.{Program}

-- the bytes of context that the host gives: what was declared, without the program's data
abbrev pub IsContextOf : Option (Arc Program Global) → ℕ → Type 0
IsContextOf program n = MatchOption program (n ≡ 0) (λ p. n + length (arc_value p).data.items ≡ (arc_value p).verified.decl.context)

-- the objects that a run may hold, as was declared
abbrev pub IsHeldOf : Option (Arc Program Global) → ℕ → Type 0
IsHeldOf program n = MatchOption program (n ≡ 0) (λ p. n ≡ (arc_value p).verified.decl.held)

-- the slots of the program that was verified
abbrev pub AreSlotsOf : Option (Arc Program Global) → ℕ → Type 0
AreSlotsOf program n = MatchOption program (n ≡ 0) (λ p. n ≡ length (arc_value p).verified.program)
