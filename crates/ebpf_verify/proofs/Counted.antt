-- One slot more is counted.
use Rattle.std.proofs.Common.{◌≡◌, ◌<◌, ◌≤◌, ◌+◌, ℕ, Bool, true, false, if◌then◌else◌, List, Option, None, take, count_by, length, get_or, sym, ap}
use Rattle.std.proofs.Common.{◌∙◌, add-zero, arith}
use Rattle.std.proofs.lemmas.List.Sums.{count_by_more_yes, count_by_more_no}
use Rattle.std.proofs.lemmas.Option.{slice_get-get_or}
use Rattle.ebpf_insn.specs.declared.insn.Insn.{Insn}
use Rattle.ebpf_insn.specs.Program.{insn_at, flattened}
use Rattle.ebpf_verify.specs.declared.call_count.Counted.{Counted}
use Rattle.ebpf_verify.specs.CallCount.{is_counted}

there : (p : List (Option Insn)) (slot : ℕ) → slot < length p → insn_at p slot ≡ get_or p slot None
there p slot lt = ap flattened (slice_get-get_or p slot None lt)

counted_call : (counted : Counted) (p : List (Option Insn)) (slot : ℕ) → slot < length p
    → is_counted counted (insn_at p slot) ≡ true
    → count_by (is_counted counted) (take (slot + 1) p) ≡ count_by (is_counted counted) (take slot p) + 1
counted_call counted p slot lt is = count_by_more_yes (is_counted counted) p slot None lt (ap (is_counted counted) (sym (there p slot lt)) ∙ is)

counted_other : (counted : Counted) (p : List (Option Insn)) (slot : ℕ) → slot < length p
    → is_counted counted (insn_at p slot) ≡ false
    → count_by (is_counted counted) (take (slot + 1) p) ≡ count_by (is_counted counted) (take slot p)
counted_other counted p slot lt is = count_by_more_no (is_counted counted) p slot None lt (ap (is_counted counted) (sym (there p slot lt)) ∙ is)

-- by what a slot has, which is 1 or 0
pub counted_more : (counted : Counted) (p : List (Option Insn)) (slot n : ℕ) (is : Bool) → slot < length p → is_counted counted (insn_at p slot) ≡ is
    → n ≡ (if is then 1 else 0) → count_by (is_counted counted) (take (slot + 1) p) ≡ count_by (is_counted counted) (take slot p) + n
counted_more counted p slot n true lt is one = rw one (counted_call counted p slot lt is)
counted_more counted p slot n false lt is none = rw (none, add-zero) (counted_other counted p slot lt is)

pub at_most_one : (is : Bool) (n : ℕ) → n ≡ (if is then 1 else 0) → n ≤ 1
at_most_one true n one = omega arith
at_most_one false n none = omega arith
