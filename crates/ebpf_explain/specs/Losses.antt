-- What is lost where paths meet, by the slot that each comes from.
use Rattle.std.specs.Prelude.{ℕ, ◌==◌, ◌&&◌, if◌then◌else◌, List, [], ◌++◌, length, map, Option}
use Rattle.std.specs.List.{flat_map}
use Rattle.ebpf_insn.specs.declared.insn.Insn.{Insn}
use Rattle.ebpf_verify.specs.declared.comers.Comer.{Comer}
use Rattle.ebpf_verify.specs.declared.entry.EntryState.{EntryState}
use Rattle.ebpf_verify.specs.declared.entry.EntryState.TheVariants.{Known}
use Rattle.ebpf_verify.specs.Comers.{comers}
use Rattle.ebpf_verify.specs.Entry.{entry_in}
use Rattle.ebpf_explain.specs.declared.lost.Place.{Place}
use Rattle.ebpf_explain.specs.Lost.{known_there, lost_places, place_name}

-- what comes from one slot to another knew these words of what is lost there
pub record Lost : Type 0 where
  pub from : ℕ
  pub to : ℕ
  pub words : List ℕ

abbrev pub lost_from : List Place → (to : ℕ) → Comer → Lost
lost_from places to c = record { from = c.from; to = to; words = flat_map (λ place. place_name place ++ known_there place c.state) places }

-- of each that comes, where anything is lost
abbrev pub lost_by_each : List Place → (to : ℕ) → List Comer → List Lost
lost_by_each places to cs = if length places == 0 then [] else map (lost_from places to) cs

abbrev pub losses_in : (to : ℕ) → List Comer → EntryState → List Lost
losses_in to cs (Known s) = lost_by_each (lost_places cs s) to cs
losses_in to cs _ = []

-- what is lost at a slot
abbrev pub losses_at : List (Option Insn) → List EntryState → (to : ℕ) → List Lost
losses_at p entries to = losses_in to (comers p to) (entry_in entries to)

abbrev pub words_between : (from to : ℕ) → Lost → List ℕ
words_between from to l = if (l.from == from) && (l.to == to) then l.words else []

-- what is lost of what comes from one slot to another; where that leads there twice, of both
abbrev pub lost_between : List Lost → (from to : ℕ) → List ℕ
lost_between losses from to = flat_map (words_between from to) losses
