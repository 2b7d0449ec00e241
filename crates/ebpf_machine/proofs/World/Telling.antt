-- How what an instruction does is written where objects have other names.
use Rattle.std.proofs.Common.{ℕ, Bool, true, cond, Result, Ok, Err}
use Rattle.std.specs.Prelude.{option_map}
use Rattle.ebpf_machine.specs.Values.{Trap, UseAfterFree, AnotherRunsObject}
use Rattle.ebpf_machine.specs.Effect.{Found, Act, Nothing, Write, Ask, Free, Exchange, Effect, Goes, Ends, Traps}
use Rattle.ebpf_machine.specs.Renaming.{frame_renamed}
use Rattle.ebpf_machine.specs.World.{Name}

-- the other names, and whether it is hidden that an object is another run's
pub record Telling (N M : Type 0) : Type 0 where
  pub name : N → M
  pub hides : Bool

-- a run names its objects by their calls, and can't tell whose an object is: what is another run's is, as it sees it, nobody's
abbrev pub by_call : Telling Name ℕ
by_call = record { name = λ n. n.call; hides = true }

abbrev pub trap_told : {N M : Type 0} → Telling N M → Trap → Trap
trap_told how AnotherRunsObject = cond how.hides UseAfterFree AnotherRunsObject
trap_told how trap = trap

abbrev pub found_told : {N M : Type 0} → Telling N M → Result Found Trap → Result Found Trap
found_told how (Ok found) = Ok found
found_told how (Err trap) = Err (trap_told how trap)

abbrev pub act_told : {N M : Type 0} → Telling N M → Act N → Act M
act_told how Nothing = Nothing
act_told how (Write name at bytes) = Write (how.name name) at bytes
act_told how (Ask kind) = Ask kind
act_told how (Free name) = Free (how.name name)
act_told how (Exchange shelf given) = Exchange shelf (option_map how.name given)

abbrev pub effect_told : {N M : Type 0} → Telling N M → Effect N → Effect M
effect_told how (Goes act to frame) = Goes (act_told how act) to (frame_renamed how.name frame)
effect_told how (Ends n) = Ends n
effect_told how (Traps trap) = Traps (trap_told how trap)
