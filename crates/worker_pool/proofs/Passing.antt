-- An exchange of objects, by what a worker counts.
use Rattle.std.proofs.Common.{[], ◌∷◌, ◌≡◌, ℕ, ◌+◌, Option, Some, None, IfSome, List, length}
use Rattle.object_cache.specs.ShelfView.{one_if}
use Rattle.owners_table.specs.Owning.{Holds}
use Rattle.ebpf_machine.specs.Store.{reply_to_swap}
use Rattle.ebpf_object.specs.Object.{slot_of}
use Rattle.ebpf_object.specs.declared.object.Object.{Object}
use Rattle.ebpf_owned.specs.Exchanges.{less}
use Rattle.ebpf_owned.proofs.Passing.{slots, length_less as length_less_owned}
use Rattle.worker_pool.specs.declared.hands.Tools.{Tools}
use Rattle.worker_pool.specs.Going.{GoesBy, HasAnswered}

-- the store went by the reply to a call of swap
pub swapped_goes : {L : Type 0} (before after : Tools L) (got : Option Object) → HasAnswered before after 0 0 (one_if got)
    → GoesBy before (reply_to_swap got ∷ []) after
swapped_goes before after None went = went
swapped_goes before after (Some h) went = went

-- how many are held once it was given up, by the count of the shelf's hand
pub length_less : (given : Option Object) (K : Object → Type 0) (held held' : List (ℕ × ℕ))
    → IfSome given (λ g. Holds (slot_of g) held × K g) → held' ≡ less (slots given) held
    → length held' + one_if given ≡ length held
length_less None K held held' has are = length_less_owned None K held held' has are
length_less (Some g) K held held' has are = length_less_owned (Some g) K held held' has are
