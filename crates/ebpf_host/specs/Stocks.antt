-- The objects of a machine: a stock of each kind, and what is said of an object of any kind there.
use Rattle.std.specs.Prelude.{◌≡◌, ◌≢◌, ◌+◌, ◌*◌, ℕ, ◌==◌, if◌then◌else◌, List, [], Option, Some, None, option_map}
use Rattle.ebpf_object.specs.declared.object.Object.{Object}
use Rattle.ebpf_object.specs.Object.{kind_of, slot_of, bytes_of}
use Rattle.ebpf_host.specs.declared.stocks.Stocks.{Stocks}
use Rattle.ebpf_host.specs.Stock.{StockView, Shelved, IsHeld, held_count, shelved_at}

abbrev pub no_stock : StockView
no_stock = record { pages = []; shelf = None }

-- the stock of the kind with this number
abbrev pub stock_of : Stocks → ℕ → StockView
stock_of s kind = if kind == 0 then s.cells else if kind == 1 then s.records else if kind == 2 then s.blocks else no_stock

-- the other stocks are as they were
abbrev pub OthersStay : Stocks → Stocks → ℕ → Type 0
OthersStay old new kind = (other : ℕ) → other ≢ kind → stock_of new other ≡ stock_of old other

-- a run holds an object
abbrev pub Holds : Stocks → Object → Type 0
Holds s o = IsHeld (stock_of s (kind_of o)) (slot_of o)

-- as it is on the shelf of its kind
abbrev pub as_shelved : Object → Shelved
as_shelved o = shelved_at (slot_of o) (bytes_of o)

-- one number for the kind and the slot of an object
abbrev pub number_in : ℕ → ℕ → ℕ
number_in kind slot = 3 * slot + kind

abbrev pub number_of : Object → ℕ
number_of o = number_in (kind_of o) (slot_of o)

-- what is on the shelf of a kind, under that number
abbrev pub renumbered : ℕ → Shelved → Shelved
renumbered kind o = shelved_at (number_in kind o.slot) o.bytes

abbrev pub standing_on : Stocks → ℕ → Option Shelved
standing_on s kind = option_map (renumbered kind) (stock_of s kind).shelf

-- the bytes of what is on a shelf
abbrev pub bytes_on : Option Shelved → Option (List ℕ)
bytes_on what = option_map (λ o. o.bytes) what

-- on the shelf of the kind with this number
abbrev pub shelf_bytes : Stocks → ℕ → Option (List ℕ)
shelf_bytes s kind = bytes_on (stock_of s kind).shelf

-- how many objects of a kind runs hold, counted from one on
abbrev pub held_of : Stocks → ℕ → ℕ
held_of s kind = held_count (stock_of s kind)

-- what a call of swap is answered: what is on the shelf, or that nothing is
abbrev pub StandsThere : Stocks → (shelf slot : ℕ) (bytes : List ℕ) → Type 0
StandsThere s shelf slot bytes = standing_on s shelf ≡ Some (shelved_at slot bytes)

abbrev pub StandsNone : Stocks → ℕ → Type 0
StandsNone s shelf = standing_on s shelf ≡ None
