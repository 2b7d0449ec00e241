-- A few answers packed into a number: each has a code of two bits, and the code of the first one is lowest.
use Rattle.std.specs.Prelude.{ℕ, zero, suc, ◌/◌, ◌%◌, ◌==◌, if◌then◌else◌, List, [], ◌∷◌}
use Rattle.ebpf_machine.specs.declared.report.Reply.{Reply}
use Rattle.ebpf_machine.specs.declared.report.Reply.TheVariants.{Null, Granted, Empty, Shelf}

abbrev pub code_of : Reply → ℕ
code_of Null = 0
code_of Granted = 1
code_of Empty = 2
code_of Shelf = 3

abbrev pub reply_of : ℕ → Reply
reply_of code = if code == 0 then Null else (if code == 1 then Granted else (if code == 2 then Empty else Shelf))

-- the first n replies of those that a number packs
unfoldable pub replies_from : (n : ℕ) → (codes : ℕ) → List Reply
replies_from zero codes = []
replies_from (suc n) codes = reply_of (codes % 4) ∷ replies_from n (codes / 4)
