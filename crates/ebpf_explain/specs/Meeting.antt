-- Why a slot is refused where paths meet that hold different objects.
use Rattle.std.specs.Prelude.{ℕ, not, List, ◌++◌, codes, decimal, drop, Option, Some, None, slice_get}
use Rattle.std.specs.List.{flat_map, position}
use Rattle.ebpf_state.specs.declared.held.Held.{Held}
use Rattle.ebpf_state.specs.declared.kinds.KindRow.{KindRow}
use Rattle.ebpf_state.specs.States.{is_same_held}
use Rattle.ebpf_verify.specs.declared.comers.Comer.{Comer}
use Rattle.ebpf_explain.specs.Held.{held_text}

abbrev pub next_held : List KindRow → Held → List ℕ
next_held rows h = codes ", " ++ held_text rows h

abbrev pub held_from : List KindRow → Option Held → List Held → List ℕ
held_from rows None held = codes "holds nothing"
held_from rows (Some h) held = held_text rows h ++ flat_map (next_held rows) (drop 1 held)

-- what comes, and what it holds
abbrev pub coming : List KindRow → Comer → List ℕ
coming rows c = codes "slot " ++ (decimal c.from ++ (codes ", which " ++ held_from rows (slice_get c.state.held 0) c.state.held))

-- the first that comes and doesn't hold the same
abbrev pub holds_other : List Held → List Comer → Option ℕ
holds_other held cs = position (λ c. not (is_same_held held c.state.held)) cs

-- where no two are found that differ, which can't be
abbrev pub unknown_paths : List ℕ
unknown_paths = codes "paths meet that hold different objects, or of which only one has compared an answer"

abbrev pub pair_text : List KindRow → Comer → Comer → List ℕ
pair_text rows a b = coming rows a ++ (codes ", and " ++ (coming rows b ++ codes ", meet"))

abbrev pub both_paths : List KindRow → Comer → Option Comer → List ℕ
both_paths rows a None = unknown_paths
both_paths rows a (Some b) = pair_text rows a b

abbrev pub paths_apart : List KindRow → Comer → Option ℕ → List Comer → List ℕ
paths_apart rows a None cs = unknown_paths
paths_apart rows a (Some number) cs = both_paths rows a (slice_get cs number)

abbrev pub paths_after : List KindRow → Comer → List Comer → List ℕ
paths_after rows a cs = paths_apart rows a (holds_other a.state.held cs) cs

-- the first that comes, and the first that doesn't hold the same
abbrev pub paths_from : List KindRow → Option Comer → List Comer → List ℕ
paths_from rows None cs = unknown_paths
paths_from rows (Some a) cs = paths_after rows a cs

-- a line: two blanks, the slot, what meets there, and what would mend it
abbrev pub meeting_sentence : ℕ → List Comer → List KindRow → List ℕ
meeting_sentence slot cs rows =
    codes "  slot " ++ (decimal slot ++ (codes " is where " ++ (paths_from rows (slice_get cs 0) cs ++
    codes ": before they meet, free what only one of them holds\n")))
