-- The references that are held, as text.
use Rattle.std.specs.Prelude.{ℕ, if◌then◌else◌, List, ◌++◌, codes, decimal, slice_get, Option, Some, None}
use Rattle.ebpf_state.specs.declared.held.Held.{Held}
use Rattle.ebpf_state.specs.declared.kinds.KindRow.{KindRow}

-- the name in a row, or the number of a kind that has none
abbrev pub name_in : Option KindRow → ℕ → List ℕ
name_in None kind = decimal kind
name_in (Some row) kind = row.name.now

abbrev pub kind_text : List KindRow → ℕ → List ℕ
kind_text rows kind = name_in (slice_get rows kind) kind

-- the slot of the call that was granted the object, and the object's kind; before it was compared with null there may be none
abbrev pub held_text : List KindRow → Held → List ℕ
held_text rows h =
    (if h.tested then codes "holds " else codes "may hold ") ++ (decimal h.call ++ (codes " (" ++ (kind_text rows h.kind ++ codes ")")))

abbrev pub held_word : List KindRow → Held → List ℕ
held_word rows h = codes "  " ++ held_text rows h
