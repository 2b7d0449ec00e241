-- What a run leaves on shelves, by what its program does alone. Only bytes are compared: the run alone has other slots than a machine.
use Rattle.std.specs.Prelude.{◌≡◌, ◌==◌, ℕ, zero, suc, List, Option, Some, None, option_map}
use Rattle.std.specs.List.{find}
use Rattle.ebpf_verify.specs.Subject.{Subject}
use Rattle.ebpf_machine.specs.declared.report.Report.{Report}
use Rattle.ebpf_machine.specs.Alone.{Replies, alone_after}
use Rattle.ebpf_machine.specs.Replies.{replies_in}
use Rattle.ebpf_machine.specs.Shelves.{shelf_done}
use Rattle.ebpf_machine.specs.Store.{Store, Shelved}
use Rattle.ebpf_machine.specs.View.{RunView, view_in, effect_of_view}
use Rattle.ebpf_host.specs.declared.stocks.Stocks.{Stocks}
use Rattle.ebpf_host.specs.Stocks.{bytes_on, shelf_bytes}

-- the bytes of what an instruction gives: an object of the run, by its call, or nothing
abbrev pub bytes_given : RunView → Option ℕ → Option (List ℕ)
bytes_given v None = None
bytes_given v (Some call) = option_map (λ o. o.bytes) (find (λ o. o.call == call) v.objects)

-- the bytes on a shelf after the next instruction of a run, where these were there before
abbrev pub left_by : Option RunView → ℕ → Option (List ℕ) → Option (List ℕ)
left_by None shelf bytes = bytes
left_by (Some v) shelf bytes = shelf_done (bytes_given v) (effect_of_view v) shelf bytes

-- the bytes on a shelf after n instructions of the program alone, with these replies, where these were there at first
unfoldable pub left_after : ℕ → Subject → List ℕ → Replies → ℕ → Option (List ℕ) → Option (List ℕ)
left_after zero s context replies shelf bytes = bytes
left_after (suc n) s context replies shelf bytes = left_by (view_in (alone_after n s context replies).world 0) shelf (left_after n s context replies shelf bytes)

-- after the instructions of a report, with its replies
abbrev pub left_in : Subject → List ℕ → Report → ℕ → Option (List ℕ) → Option (List ℕ)
left_in s context r shelf bytes = left_after r.executed s context (replies_in r) shelf bytes

-- over a store: where it is known what was on a shelf before the run, it is known what is there after it, with these bytes
abbrev pub IsLeft : {S H : Type 0} → Store S H → (old new : S) → Subject → List ℕ → Report → Type 0
IsLeft o old new s context r = (shelf : ℕ) (what : Option Shelved) → o.stand old shelf what → (now : Option Shelved) × o.stand new shelf now × (bytes_on now ≡ left_in s context r shelf (bytes_on what))

-- on the shelves of a machine
abbrev pub AreLeft : (old new : Stocks) → Subject → List ℕ → Report → Type 0
AreLeft old new s context r = (shelf : ℕ) → shelf_bytes new shelf ≡ left_in s context r shelf (shelf_bytes old shelf)
