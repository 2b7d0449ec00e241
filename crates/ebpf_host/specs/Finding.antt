-- What the calls of swap of a run find on shelves. Only bytes are compared: the run alone has other slots than a machine.
use Rattle.std.specs.Prelude.{◌≡◌, ◌<◌, ℕ, List, length, drop, Option, Some, None, slice_get}
use Rattle.ebpf_verify.specs.Subject.{Subject}
use Rattle.ebpf_machine.specs.declared.report.Reply.{Reply}
use Rattle.ebpf_machine.specs.declared.report.Reply.TheVariants.{Null, Granted, Empty, Shelf}
use Rattle.ebpf_machine.specs.declared.report.Report.{Report}
use Rattle.ebpf_machine.specs.Alone.{Replies, alone_after, bytes_for}
use Rattle.ebpf_machine.specs.Events.{AtShelf}
use Rattle.ebpf_machine.specs.Replies.{replies_in}
use Rattle.ebpf_machine.specs.Step.{asking_in}
use Rattle.ebpf_machine.specs.Store.{Store, Shelved}
use Rattle.ebpf_machine.specs.View.{RunView, view_in}
use Rattle.ebpf_machine.specs.World.{kinds_of}
use Rattle.ebpf_host.specs.declared.stocks.Stocks.{Stocks}
use Rattle.ebpf_host.specs.Leaving.{left_after}
use Rattle.ebpf_host.specs.Stocks.{bytes_on, shelf_bytes}

-- what a call of swap finds, by its reply: these bytes, or nothing
abbrev pub found_by : Option Reply → List ℕ → Option (List ℕ)
found_by (Some Shelf) bytes = Some bytes
found_by (Some Empty) bytes = None
found_by (Some Null) bytes = None
found_by (Some Granted) bytes = None
found_by None bytes = None

-- what the next call of a run finds on a shelf, by replies to all of its calls: its own is the one after those that the run has had
abbrev pub found_in : Replies → RunView → (shelf : ℕ) → Option (List ℕ)
found_in replies v shelf =
    found_by (slice_get replies.answers (length v.replies)) (bytes_for (kinds_of v.subject.rows) shelf (drop (length v.taken) replies.taken))

-- of the first n instructions of the program alone, with these replies, each call of swap for a shelf finds what is left there by the
-- instructions before it, where these bytes were there at first
abbrev pub FindsOn : (n : ℕ) → Subject → List ℕ → Replies → (shelf : ℕ) → Option (List ℕ) → Type 0
FindsOn n s context replies shelf bytes = (k : ℕ) (v : RunView) → k < n → view_in (alone_after k s context replies).world 0 ≡ Some v
    → asking_in v ≡ AtShelf shelf → found_in replies v shelf ≡ left_after k s context replies shelf bytes

-- in the instructions of a report, with its replies
abbrev pub FindsIn : Subject → List ℕ → Report → (shelf : ℕ) → Option (List ℕ) → Type 0
FindsIn s context r shelf bytes = FindsOn r.executed s context (replies_in r) shelf bytes

-- over a store: on each shelf of which it is known what was there before the run
abbrev pub IsFound : {S H : Type 0} → Store S H → S → Subject → List ℕ → Report → Type 0
IsFound o old s context r = (shelf : ℕ) (what : Option Shelved) → o.stand old shelf what → FindsIn s context r shelf (bytes_on what)

-- on each shelf of a machine
abbrev pub AreFound : Stocks → Subject → List ℕ → Report → Type 0
AreFound old s context r = (shelf : ℕ) → FindsIn s context r shelf (shelf_bytes old shelf)

-- a store gives to calls of swap what is known to be on a shelf, and nothing else
pub record TellsShelves {S H : Type 0} (o : Store S H) : Type 0 where
  pub there : (s : S) (shelf slot : ℕ) (bytes : List ℕ) (what : Option Shelved) → o.stand s shelf what → o.can_fetch s shelf slot bytes → bytes_on what ≡ Some bytes
  pub none : (s : S) (shelf : ℕ) (what : Option Shelved) → o.stand s shelf what → o.can_miss s shelf → bytes_on what ≡ None
