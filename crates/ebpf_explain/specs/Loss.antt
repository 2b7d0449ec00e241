-- Where the values of a register were lost that is read where it is not set, and the sentence that says so.
use Rattle.std.specs.Prelude.{ℕ, zero, suc, ◌==◌, if◌then◌else◌, List, ◌++◌, length, codes, decimal, Option, Some, None, slice_get}
use Rattle.ebpf_insn.specs.declared.insn.Insn.{Insn}
use Rattle.ebpf_insn.specs.declared.insn.Insn.TheVariants as insn
use Rattle.ebpf_insn.specs.declared.register.Reg.{Reg}
use Rattle.ebpf_insn.specs.Program.{insn_at}
use Rattle.ebpf_text.specs.Operands.{register_text}
use Rattle.ebpf_verify.specs.declared.comers.Comer.{Comer}
use Rattle.ebpf_verify.specs.declared.entry.EntryState.{EntryState}
use Rattle.ebpf_verify.specs.declared.entry.EntryState.TheVariants.{Known}
use Rattle.ebpf_verify.specs.declared.fault.VerifyCode.{VerifyCode}
use Rattle.ebpf_verify.specs.declared.fault.VerifyCode.TheVariants.{UnsetRegister}
use Rattle.ebpf_verify.specs.Comers.{comers}
use Rattle.ebpf_verify.specs.Entry.{entry_in}
use Rattle.ebpf_explain.specs.declared.loss.Loss.{Loss}
use Rattle.ebpf_explain.specs.declared.loss.Trail.{Trail}
use Rattle.ebpf_explain.specs.declared.loss.Trail.TheVariants.{Here, From, Nowhere}
use Rattle.ebpf_explain.specs.declared.lost.Place.{Place}
use Rattle.ebpf_explain.specs.declared.lost.Place.TheVariants.{Register}
use Rattle.ebpf_explain.specs.Lost.{is_lost, first_without, apart_from}
use Rattle.ebpf_explain.specs.Reads.{first_unset, registers_read}

-- what comes from a slot comes from what was there before, but for a call, which unsets registers itself
abbrev pub came_by : Option Insn → ℕ → Trail
came_by (Some (insn.Call number)) from = Nowhere
came_by _ from = From from

abbrev pub came : List (Option Insn) → ℕ → Trail
came p from = came_by (insn_at p from) from

abbrev pub back_from : List (Option Insn) → Option Comer → Trail
back_from p None = Nowhere
back_from p (Some c) = came p c.from

abbrev pub back_to : List (Option Insn) → List Comer → Option ℕ → Trail
back_to p cs None = Nowhere
back_to p cs (Some number) = back_from p (slice_get cs number)

-- the first that comes and knows nothing of a place
abbrev pub back : List (Option Insn) → List Comer → Place → Trail
back p cs place = back_to p cs (first_without place cs)

-- where a register has lost its value, by what is known before a slot and what comes there
abbrev pub trail_by : List (Option Insn) → EntryState → List Comer → Reg → Trail
trail_by p (Known s) cs r = if length cs == 0 then Nowhere else if is_lost (Register r) cs s then Here else back p cs (Register r)
trail_by p _ cs r = Nowhere

abbrev pub trail_at : List (Option Insn) → List EntryState → Reg → ℕ → Trail
trail_at p entries r slot = trail_by p (entry_in entries slot) (comers p slot) r

abbrev pub follow : (ℕ → Option ℕ) → ℕ → Trail → Option ℕ
follow on at Here = Some at
follow on at (From from) = on from
follow on at Nowhere = None

-- in at most that many steps back
unfoldable pub lost_within : List (Option Insn) → List EntryState → Reg → (steps at : ℕ) → Option ℕ
lost_within p entries r zero at = None
lost_within p entries r (suc steps) at = follow (λ from. lost_within p entries r steps from) at (trail_at p entries r at)

-- each step leads to a lower slot, so there are no more of them than slots
abbrev pub lost_in : List (Option Insn) → List EntryState → Reg → ℕ → Option ℕ
lost_in p entries r slot = lost_within p entries r (length entries) slot

-- the register that is read unset, where that is why a slot is refused
abbrev pub unset_by : Option Insn → EntryState → VerifyCode → Option Reg
unset_by (Some i) (Known s) UnsetRegister = first_unset s (registers_read i)
unset_by _ _ _ = None

abbrev pub unset_read : List (Option Insn) → List EntryState → ℕ → VerifyCode → Option Reg
unset_read p entries slot code = unset_by (insn_at p slot) (entry_in entries slot) code

abbrev pub loss_at : Reg → Option ℕ → Option Loss
loss_at r None = None
loss_at r (Some at) = Some (record { register = r; at = at })

abbrev pub losing_by : List (Option Insn) → List EntryState → ℕ → Option Reg → Option Loss
losing_by p entries slot None = None
losing_by p entries slot (Some r) = loss_at r (lost_in p entries r slot)

-- that register, and where its values were lost
abbrev pub losing : List (Option Insn) → List EntryState → ℕ → VerifyCode → Option Loss
losing p entries slot code = losing_by p entries slot (unset_read p entries slot code)

abbrev pub loss_head : Loss → List ℕ
loss_head loss =
    codes "reads " ++ (register_text loss.register ++ (codes ", which paths that meet at slot " ++ (decimal loss.at ++ codes " set to values that do not fit,")))

abbrev pub loss_words : Loss → List Comer → List ℕ
loss_words loss cs =
    loss_head loss ++ (apart_from (Register loss.register) (slice_get cs 0) cs ++ codes ": set it to the same kind on each path")

-- a line: two blanks, the slot, and by what comes to where the paths met, two of the values
abbrev pub loss_sentence : ℕ → Loss → List Comer → List ℕ
loss_sentence slot loss cs = codes "  slot " ++ (decimal slot ++ (codes " " ++ (loss_words loss cs ++ codes "\n")))
