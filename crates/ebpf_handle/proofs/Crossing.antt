-- What a handle owns may go to another thread where its value may.
use Rattle.std.specs.Prelude.{Option, Some, None}
use mir.Raw.{raw}
use base.Shift.{Keyless}
use base.Fraction.{full_share}
use denote.RattleType.{RattleType}
use denote.Memory.{lone}
use denote.RawPtr.{Ptr, block_ptr, null_ptr, lies_at}
use denote.Exit.{Exit, unchanged, leaves, hidden, under}
use denote.Param.Send.{IsSend, Quiet, part_keyless}
use Rattle.std.proofs.Crossing.{frees}
use Rattle.ebpf_handle.specs.Ownership.{heap, held}

lies : (R : RattleType) → IsSend R → (p : Ptr) (x : R.Denot) → Keyless (lies_at R full_share p x)
lies R s (block_ptr b o) x = part_keyless R s full_share x b o
lies R s null_ptr x = tt

pub quiet : {D X : Type 0} (to : D → X) (e : Exit X) → Quiet e → Quiet (hidden (under to e))
quiet to unchanged q = λ x w. tt
quiet to (leaves L l S s r₀) q = λ d. q (to d)

pub held_keyless : (R : RattleType) → IsSend R → (p : Ptr) (x : Option R.Denot) → Keyless (held R p x)
held_keyless R s p None = tt
held_keyless R s p (Some x) = (lies R s p x, frees.frees heap (raw (lone R.mir)) p)
